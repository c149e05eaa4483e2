-- Events behind one another: histories that were extended twice, runs of events that were all done, and runs whose
-- last event was cut by the power.
use Rattle.std.proofs.Common.{◌≡◌, false, List, [], ◌∷◌, ◌++◌, sym, refl, subst, append_assoc, append-nil}
use Rattle.flash.specs.Card.{Card}
use Rattle.flash.specs.Write.{Write, Torn}
use Rattle.flash.specs.History.{Operation, write, Event, event, done, Completed, All, Execution, Histories, Extends, Completes, Crashes}

-- nothing asked adds nothing
pub extends_none : (N : Histories) → Extends N N []
extends_none N = record { each = λ h n. subst N (sym (append-nil h)) n }

-- what is asked behind something else adds its events behind
pub extends_join : {N₀ N₁ N₂ : Histories} {es fs : List Event} → Extends N₀ N₁ es → Extends N₁ N₂ fs → Extends N₀ N₂ (es ++ fs)
extends_join {N₂} {es} {fs} a b = record { each = λ h n. subst N₂ (append_assoc h es fs) (b.each (h ++ es) (a.each h n)) }

pub extends_at : {N₀ N₁ : Histories} {es fs : List Event} → es ≡ fs → Extends N₀ N₁ es → Extends N₀ N₁ fs
extends_at {N₀} {N₁} e a = subst (Extends N₀ N₁) e a

pub execution_join : (c : Card) (es : List Event) (w : Card) (fs : List Event) (d : Card) → Execution c es w → Execution w fs d → Execution c (es ++ fs) d
execution_join c [] w fs d h k = subst (λ v. Execution v fs d) h k
execution_join c (e ∷ es) w fs d h k = (h.0, execution_join e.after es w fs d h.1 k)

pub all_join : (P : Event → Type 0) (es fs : List Event) → All P es → All P fs → All P (es ++ fs)
all_join P [] fs h k = k
all_join P (e ∷ es) fs h k = (h.0, all_join P es fs h.1 k)

pub completes_none : (c : Card) (N : Histories) → Completes c c N N
completes_none c N = record { es = []; adds = extends_none N; chain = refl; whole = tt }

-- nothing changed, and nothing was asked
pub completes_still : {c d : Card} {N₀ N₁ : Histories} → d ≡ c → Extends N₀ N₁ [] → Completes c d N₀ N₁
completes_still e a = record { es = []; adds = a; chain = e; whole = tt }

pub completes_one : {c d : Card} {o : Operation} {N₀ N₁ : Histories} → Extends N₀ N₁ (event c o d ∷ []) → d ≡ done c o → d.dark ≡ false → Completes c d N₀ N₁
completes_one {c} {d} {o} a e l = record { es = event c o d ∷ []; adds = a; chain = (refl, refl); whole = (record { is = e; powered = l }, tt) }

pub completes_join : {c w d : Card} {N₀ N₁ N₂ : Histories} → Completes c w N₀ N₁ → Completes w d N₁ N₂ → Completes c d N₀ N₂
completes_join {c} {w} {d} p q = record {
  es = p.es ++ q.es;
  adds = extends_join p.adds q.adds;
  chain = execution_join c p.es w q.es d p.chain q.chain;
  whole = all_join Completed p.es q.es p.whole q.whole;
}

pub crashes_one : {c d : Card} {w : Write} {N₀ N₁ : Histories} → Extends N₀ N₁ (event c (write w) d ∷ []) → Torn c w d → Crashes c d N₀ N₁
crashes_one {c} {d} {w} a t = record { es = []; last = event c (write w) d; adds = a; chain = refl; whole = tt; cut = record { w = w; is = refl; torn = t }; ends = refl }

-- all done, and then a crash
pub crashes_behind : {c w d : Card} {N₀ N₁ N₂ : Histories} → Completes c w N₀ N₁ → Crashes w d N₁ N₂ → Crashes c d N₀ N₂
crashes_behind {c} {w} {d} p q = record {
  es = p.es ++ q.es;
  last = q.last;
  adds = extends_at (sym (append_assoc p.es q.es (q.last ∷ []))) (extends_join p.adds q.adds);
  chain = execution_join c p.es w q.es q.last.before p.chain q.chain;
  whole = all_join Completed p.es q.es p.whole q.whole;
  cut = q.cut;
  ends = q.ends;
}
