-- Writes behind one another: what they leave and their events, and the outcome of asking for one list of writes and then
-- for another. Writes that were done are events that were done, and a write that was interrupted is a crash.
use Rattle.std.proofs.Common.{◌≡◌, List, [], ◌∷◌, ◌++◌, None, Ok, Err, Result, sym, refl, ap, ◌∙◌, subst, inl, inr, append_assoc}
use Rattle.flash.specs.Card.{Card}
use Rattle.flash.specs.Write.{Write, refusal, written, Torn}
use Rattle.flash.specs.History.{write, event, Completed, All, Execution, Histories, Extends, Completes, Crashes}
use Rattle.flash.specs.Device.{Answers}
use Rattle.flash.specs.Runs.{after, events, Accepted, Finished, Refused, Interrupted, Runs}
use Rattle.flash.specs.declared.Refusal.{Refusal}
use Rattle.flash.proofs.Events.{extends_none, extends_join, extends_at}
use Rattle.flash.proofs.Refusals.{accepted_powered}

pub after_append : (c : Card) (ws vs : List Write) → after c (ws ++ vs) ≡ after (after c ws) vs
after_append c [] vs = refl
after_append c (w ∷ ws) vs = after_append (written c w) ws vs

pub events_append : (c : Card) (ws vs : List Write) → events c (ws ++ vs) ≡ events c ws ++ events (after c ws) vs
events_append c [] vs = refl
events_append c (w ∷ ws) vs = ap (λ es. event c (write w) (written c w) ∷ es) (events_append (written c w) ws vs)

pub accepted_append : (c : Card) (ws vs : List Write) → Accepted c ws → Accepted (after c ws) vs → Accepted c (ws ++ vs)
accepted_append c [] vs h k = k
accepted_append c (w ∷ ws) vs h k = (h.0, accepted_append (written c w) ws vs h.1 k)

pub accepted_front : (c : Card) (ws vs : List Write) → Accepted c (ws ++ vs) → Accepted c ws
accepted_front c [] vs h = tt
accepted_front c (w ∷ ws) vs h = (h.0, accepted_front (written c w) ws vs h.1)

pub accepted_rest : (c : Card) (ws vs : List Write) → Accepted c (ws ++ vs) → Accepted (after c ws) vs
accepted_rest c [] vs h = h
accepted_rest c (w ∷ ws) vs h = accepted_rest (written c w) ws vs h.1

-- writes that were done leave the size, the number of blocks, the good blocks and the power as they were
pub after_size : (c : Card) (ws : List Write) → (after c ws).size ≡ c.size
after_size c [] = refl
after_size c (w ∷ ws) = after_size (written c w) ws

pub after_good : (c : Card) (ws : List Write) → (after c ws).good ≡ c.good
after_good c [] = refl
after_good c (w ∷ ws) = after_good (written c w) ws

pub after_dark : (c : Card) (ws : List Write) → (after c ws).dark ≡ c.dark
after_dark c [] = refl
after_dark c (w ∷ ws) = after_dark (written c w) ws

-- the events of writes that were done, as an execution of which each event was done
pub events_execution : (c : Card) (ws : List Write) → Execution c (events c ws) (after c ws)
events_execution c [] = refl
events_execution c (w ∷ ws) = (refl, events_execution (written c w) ws)

pub events_completed : (c : Card) (ws : List Write) → Accepted c ws → All Completed (events c ws)
events_completed c [] h = tt
events_completed c (w ∷ ws) h = (record { is = refl; powered = accepted_powered c w h.0 }, events_completed (written c w) ws h.1)

pub finished_none : (c : Card) (N : Histories) → Finished [] c c N N
finished_none c N = record { accepted = tt; is = refl; adds = extends_none N }

-- one write that was done
pub finished_one : {c d : Card} {w : Write} {N₀ N₁ : Histories} → refusal c w ≡ None → d ≡ written c w → Extends N₀ N₁ (event c (write w) d ∷ []) → Finished (w ∷ []) c d N₀ N₁
finished_one {c} {d} {w} h e a = record { accepted = (h, tt); is = e; adds = extends_at (ap (λ x. event c (write w) x ∷ []) e) a }

pub finished_join : {ws vs : List Write} {c w d : Card} {N₀ N₁ N₂ : Histories} → Finished ws c w N₀ N₁ → Finished vs w d N₁ N₂ → Finished (ws ++ vs) c d N₀ N₂
finished_join {ws} {vs} {c} {w} {d} {N₀} {N₁} {N₂} p q =
    let k : Finished vs (after c ws) d N₁ N₂ = subst (λ x. Finished vs x d N₁ N₂) p.is q in
    record {
      accepted = accepted_append c ws vs p.accepted k.accepted;
      is = k.is ∙ sym (after_append c ws vs);
      adds = extends_at (sym (events_append c ws vs)) (extends_join p.adds k.adds);
    }

pub refused_behind : {ws vs : List Write} {e : Refusal} {c w d : Card} {N₀ N₁ N₂ : Histories} → Finished ws c w N₀ N₁ → Refused vs e w d N₁ N₂ → Refused (ws ++ vs) e c d N₀ N₂
refused_behind {ws} {vs} {e} {c} {w} {d} {N₀} {N₁} {N₂} p q =
    let k : Refused vs e (after c ws) d N₁ N₂ = subst (λ x. Refused vs e x d N₁ N₂) p.is q in
    record {
      front = ws ++ k.front;
      w = k.w;
      rest = k.rest;
      splits = ap (λ x. ws ++ x) k.splits ∙ sym (append_assoc ws k.front (k.w ∷ k.rest));
      accepted = accepted_append c ws k.front p.accepted k.accepted;
      because = ap (λ x. refusal x k.w) (after_append c ws k.front) ∙ k.because;
      is = k.is ∙ sym (after_append c ws k.front);
      adds = extends_at (sym (events_append c ws k.front)) (extends_join p.adds k.adds);
    }

pub interrupted_behind : {ws vs : List Write} {c w d : Card} {N₀ N₁ N₂ : Histories} → Finished ws c w N₀ N₁ → Interrupted vs w d N₁ N₂ → Interrupted (ws ++ vs) c d N₀ N₂
interrupted_behind {ws} {vs} {c} {w} {d} {N₀} {N₁} {N₂} p q =
    let k : Interrupted vs (after c ws) d N₁ N₂ = subst (λ x. Interrupted vs x d N₁ N₂) p.is q in
    let j = after_append c ws k.front in
    record {
      front = ws ++ k.front;
      w = k.w;
      rest = k.rest;
      splits = ap (λ x. ws ++ x) k.splits ∙ sym (append_assoc ws k.front (k.w ∷ k.rest));
      accepted = accepted_append c ws k.front p.accepted k.accepted;
      may = ap (λ x. refusal x k.w) j ∙ k.may;
      torn = subst (λ x. Torn x k.w d) (sym j) k.torn;
      adds = extends_at (last_event k.front k.w) (extends_join p.adds k.adds);
    }
  where
    last_event : (fs : List Write) (v : Write) → events c ws ++ (events (after c ws) fs ++ event (after (after c ws) fs) (write v) d ∷ []) ≡ events c (ws ++ fs) ++ event (after c (ws ++ fs)) (write v) d ∷ []
    last_event fs v =
        let e = events_append c ws fs in
        let j = after_append c ws fs in
        let a = append_assoc (events c ws) (events (after c ws) fs) (event (after (after c ws) fs) (write v) d ∷ []) in
        cc

-- asked behind writes that were all done
pub runs_behind : {T : Type 0} {ws : List Write} {c w : Card} {N₀ N₁ : Histories} (vs : List Write) (r : Result T Refusal) (d : Card) (N₂ : Histories) → Finished ws c w N₀ N₁ → Runs vs w r d N₁ N₂ → Runs (ws ++ vs) c r d N₀ N₂
runs_behind vs (Ok _) d N₂ p q = finished_join p q
runs_behind vs (Err e) d N₂ p (inl q) = inl (refused_behind p q)
runs_behind vs (Err e) d N₂ p (inr q) = inr (q.0, interrupted_behind p q.1)

-- the first write was refused, or cut by the power
pub runs_stopped : (c : Card) (w : Write) (rest : List Write) (e : Refusal) (d : Card) (N₀ N₁ : Histories) → Answers {T = Unit {0}} c w (Err e) d N₀ N₁ → Runs {T = Unit {0}} (w ∷ rest) c (Err e) d N₀ N₁
runs_stopped c w rest e d N₀ N₁ (inl q) = inl (record { front = []; w = w; rest = rest; splits = refl; accepted = tt; because = q.0; is = q.1; adds = q.2 })
runs_stopped c w rest e d N₀ N₁ (inr q) = inr (q.0, record { front = []; w = w; rest = rest; splits = refl; accepted = tt; may = q.1; torn = q.2; adds = q.3 })

-- one write
pub runs_one : {T : Type 0} (c : Card) (w : Write) (r : Result T Refusal) (d : Card) (N₀ N₁ : Histories) → Answers c w r d N₀ N₁ → Runs (w ∷ []) c r d N₀ N₁
runs_one c w (Ok _) d N₀ N₁ q = finished_one q.0 q.1 q.2
runs_one c w (Err e) d N₀ N₁ q = runs_stopped c w [] e d N₀ N₁ q

pub finished_completes : {ws : List Write} {c d : Card} {N₀ N₁ : Histories} → Finished ws c d N₀ N₁ → Completes c d N₀ N₁
finished_completes {ws} {c} p = record {
  es = events c ws;
  adds = p.adds;
  chain = subst (Execution c (events c ws)) (sym p.is) (events_execution c ws);
  whole = events_completed c ws p.accepted;
}

pub interrupted_crashes : {ws : List Write} {c d : Card} {N₀ N₁ : Histories} → Interrupted ws c d N₀ N₁ → Crashes c d N₀ N₁
interrupted_crashes {ws} {c} {d} p = record {
  es = events c p.front;
  last = event (after c p.front) (write p.w) d;
  adds = p.adds;
  chain = events_execution c p.front;
  whole = events_completed c p.front p.accepted;
  cut = record { w = p.w; is = refl; torn = p.torn };
  ends = refl;
}
