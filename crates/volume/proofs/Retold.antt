-- An answer whose error was made into another.
use Rattle.std.proofs.Common.{◌≡◌, Ok, Err, Result, IsErrAnd, MatchResult, ap}

abbrev pub retold : {T E F : Type 0} → (E → F) → Result T E → Result T F
retold told (Ok x) = Ok x
retold told (Err e) = Err (told e)

pub retold_is : {T E F : Type 0} (told : E → F) (P : E → F → Type 0) (r : Result T E) (q : Result T F) → MatchResult r (λ x. q ≡ Ok x) (λ e. IsErrAnd q (P e)) → ((e : E) (f : F) → P e f → f ≡ told e) → q ≡ retold told r
retold_is told P (Ok x) q is each = is
retold_is told P (Err e) (Ok x) is each = absurd is
retold_is told P (Err e) (Err f) is each = ap Err (each e f is)
