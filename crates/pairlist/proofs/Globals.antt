-- The global state, with the move data of one pair more.
use Rattle.std.proofs.Common.{◌≡◌, ℕ, List, [], ◌∷◌, ◌++◌, sym, ap, ◌∙◌}
use lib.Bits.{bit_xor, xor_assoc, xor_zero_l, xor_zero_r}
use Rattle.volume.specs.State.{Moves}
use Rattle.volume.specs.Pair.{Pair}
use Rattle.volume.specs.Global.{no_moves, moves_of, mixed, global_of}

same_moves : (m n : Moves) → m.word ≡ n.word → m.first ≡ n.first → m.second ≡ n.second → m ≡ n
same_moves m n p q r =
    ap (λ x. record { word = x; first = m.first; second = m.second }) p ∙ ap (λ x. record { word = n.word; first = x; second = m.second }) q ∙ ap (λ x. record { word = n.word; first = n.first; second = x }) r

mixed_assoc : (l m n : Moves) → mixed l (mixed m n) ≡ mixed (mixed l m) n
mixed_assoc l m n =
    same_moves (mixed l (mixed m n)) (mixed (mixed l m) n) (sym (xor_assoc l.word m.word n.word)) (sym (xor_assoc l.first m.first n.first)) (sym (xor_assoc l.second m.second n.second))

pub global_push : (ps : List Pair) (p : Pair) → global_of (ps ++ p ∷ []) ≡ mixed (global_of ps) (moves_of p.state.moves)
global_push [] p =
    let m = moves_of p.state.moves in
    same_moves (mixed m no_moves) (mixed no_moves m) (zeros m.word) (zeros m.first) (zeros m.second)
  where
    zeros : (x : ℕ) → bit_xor x 0 ≡ bit_xor 0 x
    zeros x = xor_zero_r x ∙ sym (xor_zero_l x)
global_push (q ∷ ps) p = ap (mixed (moves_of q.state.moves)) (global_push ps p) ∙ mixed_assoc (moves_of q.state.moves) (global_of ps) (moves_of p.state.moves)
