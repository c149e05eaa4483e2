-- What the walk keeps while it goes along the list: the rows, the blocks and the global state of the pairs so far.
use Rattle.std.proofs.Common.{◌≡◌, ℕ, suc, ◌-◌, ◌<◌, Bool, true, false, cond, not, ◌&&◌, ◌||◌, eqb, ltb, List, [], ◌∷◌, ◌++◌, map, length, None, Ok, Err, sym, refl, ap, ◌∙◌, arith, length-append}
use lib.ListN.{length-map}
use Rattle.std.proofs.lemmas.List.{map-append}
use Rattle.std.proofs.lemmas.Bool.{lt-ltb}
use Rattle.blockset.specs.Holds.{holds, Inserted}
use Rattle.blockset.specs.declared.BlockSet.{BlockSet}
use Rattle.flash.specs.Card.{Card, Shaped}
use Rattle.pairs.specs.Slots as slots
use Rattle.pairs.specs.declared.entry.Moves.{Moves}
use Rattle.volume.specs.Check.{hardly}
use Rattle.volume.specs.Global.{no_moves, mixed, global_of}
use Rattle.volume.specs.Listing.{Readable}
use Rattle.volume.specs.Marks.{Marks}
use Rattle.volume.specs.Pair.{Pair}
use Rattle.volume.specs.Rows.{row_of, rows_of, dir_after, first_after}
use Rattle.volume.specs.Thread.{goes, member}
use Rattle.volume.specs.declared.fault.Fault.{Fault}
use Rattle.volume.proofs.Lists.{pair_blocks_lem}
use Rattle.volume.proofs.Rows.{length_rows, rows_push, dir_push, first_push, after_below}
use Rattle.pairlist.specs.Rows.{row_for, rows_in}
use Rattle.pairlist.specs.Visits.{Fit, next_for, hard_for, VisitAs, Visits, visited}
use Rattle.pairlist.specs.Walks.{root, Ready, Walked, list_of}
use Rattle.pairlist.specs.declared.rows.PairList.{PairList}
use Rattle.pairlist.specs.declared.visit.Visit.{Visit}
use Rattle.pairlist.proofs.Entering.{enters}
use Rattle.pairlist.proofs.Globals.{global_push}
use Rattle.pairlist.proofs.Loading.{sizes}
use Rattle.pairlist.proofs.Walking.{Going, going_start, going_left, going_fault, going_end, going_more, going_here, seen_blocks, visited_read}

pub record Trip (c : Card) (l : PairList) (s : BlockSet) (a b dir : ℕ) (first : Bool) (g : Moves) : Type 0 where
  pub card : Readable c
  pub pairs : List Pair
  pub seen : List ℕ
  pub turns : ℕ
  pub going : Going c pairs seen a b turns
  pub rows : rows_in l ≡ rows_of pairs
  pub marks : Marks s seen
  pub number : dir ≡ dir_after 0 pairs
  pub begins : first ≡ first_after true pairs
  pub global : slots.moves_of g ≡ global_of pairs

pub trip_start : (c : Card) (l : PairList) (s : BlockSet) (g : Moves) → Ready c l s → slots.moves_of g ≡ no_moves → Trip c l s 0 1 0 true g
trip_start c l s g r none = record {
  card = r.card;
  pairs = [];
  seen = root;
  turns = length c.blocks;
  going = going_start c (sizes c.size (length c.blocks) r.card.sized).1.1.0;
  rows = ap (map row_for) r.none;
  marks = r.marks;
  number = refl;
  begins = refl;
  global = none;
}

module _ (c : Card) (l : PairList) (s : BlockSet) (a b dir : ℕ) (first : Bool) (g : Moves) (t : Trip c l s a b dir first g) where
  -- the pair at hand is one of the card
  pub trip_fit : Fit c a b
  trip_fit = let here = going_here c t.pairs t.seen a b t.turns t.going in record { bright = t.card.bright; sized = t.card.sized; first = here.0; second = here.1 }

  trip_count : length l.rows.items ≡ length t.pairs
  trip_count = sym (length-map l.rows.items row_for) ∙ ap length t.rows ∙ length_rows 0 true t.pairs

  -- there is room for its row, and for the number of the next directory
  pub trip_room : (length l.rows.items < 2048) × (dir < 4096) × (length t.pairs < 2048)
  trip_room =
      let left = (going_left c t.pairs t.seen a b t.turns t.going).1 in
      let most = (sizes c.size (length c.blocks) t.card.sized).1.1.1 in
      (omega (arith, left, most, trip_count), omega (arith, left, most, t.number, after_below 0 t.pairs), omega (arith, left, most))

  pub trip_fault : (f : Fault) → ((seen : List ℕ) → Marks s seen → Visits c seen a b (Err f)) → list_of c ≡ Err f
  trip_fault f e = enters c t.card ∙ going_fault c t.pairs t.seen a b t.turns f t.going (e t.seen t.marks)

  module _ (v : Visit) (on : Bool) (on_is : on ≡ hard_for v.next) (visits : (seen : List ℕ) → Marks s seen → Visits c seen a b (Ok v)) (m : PairList) (h : Moves)
      (rows : m.rows.items ≡ l.rows.items ++ record { pair = record { first = a; second = b }; block = v.block; count = v.count; hard = on; dir = dir; first = first } ∷ [])
      (mixes : slots.moves_of h ≡ mixed (slots.moves_of g) (slots.moves_of v.moves)) where
    abbrev p : Pair
    p = (visits t.seen t.marks).0

    is : visited c t.seen a b ≡ Ok p
    is = (visits t.seen t.marks).1.0

    told : VisitAs v p
    told = (visits t.seen t.marks).1.1

    hard : on ≡ hardly p.state.tail
    hard = on_is ∙ told.hard

    row_is : row_for (record { pair = record { first = a; second = b }; block = v.block; count = v.count; hard = on; dir = dir; first = first }) ≡ row_of (dir_after 0 t.pairs) (first_after true t.pairs) p
    row_is =
        let named = pair_blocks_lem c a b p (visited_read c t.seen a b p is) in
        ap (λ x. record { a = x; b = b; block = v.block; count = v.count; hard = on; dir = dir; first = first }) (sym named.0)
        ∙ ap (λ x. record { a = p.a; b = x; block = v.block; count = v.count; hard = on; dir = dir; first = first }) (sym named.1)
        ∙ ap (λ x. record { a = p.a; b = p.b; block = x; count = v.count; hard = on; dir = dir; first = first }) told.block
        ∙ ap (λ x. record { a = p.a; b = p.b; block = p.block; count = x; hard = on; dir = dir; first = first }) told.count
        ∙ ap (λ x. record { a = p.a; b = p.b; block = p.block; count = length p.state.entries; hard = x; dir = dir; first = first }) hard
        ∙ ap (λ x. record { a = p.a; b = p.b; block = p.block; count = length p.state.entries; hard = hardly p.state.tail; dir = x; first = first }) t.number
        ∙ ap (λ x. record { a = p.a; b = p.b; block = p.block; count = length p.state.entries; hard = hardly p.state.tail; dir = dir_after 0 t.pairs; first = x }) t.begins

    rows_more : rows_in m ≡ rows_of (t.pairs ++ p ∷ [])
    rows_more = ap (map row_for) rows ∙ map-append row_for l.rows.items _ ∙ ap (λ rs. rs ++ row_for (record { pair = record { first = a; second = b }; block = v.block; count = v.count; hard = on; dir = dir; first = first }) ∷ []) t.rows ∙ ap (λ r. rows_of t.pairs ++ r ∷ []) row_is ∙ sym (rows_push 0 true t.pairs p)

    global_more : slots.moves_of h ≡ global_of (t.pairs ++ p ∷ [])
    global_more = mixes ∙ ap (λ x. mixed x (slots.moves_of v.moves)) t.global ∙ ap (mixed (global_of t.pairs)) told.moves ∙ sym (global_push t.pairs p)

    -- the list ends with this pair
    pub trip_end : v.next ≡ None → Walked c h m s
    trip_end last = record {
      pairs = t.pairs ++ p ∷ [];
      listed = record {
        card = t.card;
        list = going_end c t.pairs t.seen a b t.turns p t.going is (sym told.next ∙ ap next_for last);
        rows = rows_more;
        few = omega (arith, trip_room.2, length-append t.pairs (p ∷ []));
      };
      global = global_more;
      used = λ x. t.marks x ∙ seen_blocks c t.pairs t.seen a b t.turns p t.going is x;
    }

    -- the list goes on
    pub trip_more : Shaped c → (x y : ℕ) → next_for v.next ≡ goes x y → (s₁ s₂ : BlockSet) → Inserted s x s₁ → Inserted s₁ y s₂ → (d : ℕ) → d ≡ cond on dir (suc dir) → Trip c m s₂ x y d (not on) h
    trip_more shaped x y next s₁ s₂ in-x in-y d number =
        let goes_on = going_more c t.pairs t.seen a b t.turns p x y shaped t.going is (sym told.next ∙ next) in
        let here = going_here c (t.pairs ++ p ∷ []) (x ∷ y ∷ t.seen) x y (t.turns - 1) goes_on in
        let most = (sizes c.size (length c.blocks) t.card.sized).1.1.1 in
        let small_x : ltb x 4096 ≡ true = lt-ltb x 4096 (omega (arith, here.0, most)) in
        let small_y : ltb y 4096 ≡ true = lt-ltb y 4096 (omega (arith, here.1, most)) in
        record {
          card = t.card;
          pairs = t.pairs ++ p ∷ [];
          seen = x ∷ y ∷ t.seen;
          turns = t.turns - 1;
          going = goes_on;
          rows = rows_more;
          marks = λ z.
              in-y.holding z
              ∙ ap (λ w. (w && eqb z y) || holds s₁ z) small_y
              ∙ ap (λ w. eqb z y || w) (in-x.holding z ∙ ap (λ w. (w && eqb z x) || holds s z) small_x ∙ ap (λ w. eqb z x || w) (t.marks z))
              ∙ swap (eqb z y) (eqb z x) (member z t.seen);
          number = number ∙ ap (λ w. cond w dir (suc dir)) hard ∙ ap (λ n. cond (hardly p.state.tail) n (suc n)) t.number ∙ sym (dir_push 0 t.pairs p);
          begins = ap not hard ∙ sym (first_push true t.pairs p);
          global = global_more;
        }
      where
        swap : (u v w : Bool) → (u || (v || w)) ≡ (v || (u || w))
        swap true true w = refl
        swap true false w = refl
        swap false v w = refl
