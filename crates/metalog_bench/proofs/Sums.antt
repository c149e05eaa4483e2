-- The sum that wraps in 64 bits is the total's remainder.
use Rattle.std.proofs.Common.{◌≡◌, ℕ, ◌+◌, ◌%◌, ◌^◌, ◌<◌, List, [], ◌∷◌, fold, ◌∙◌, arith}
use Rattle.metalog.specs.Log.{Item}
use Rattle.metalog_bench.specs.Total.{weight_of, total_of}

-- the sum with one item more
abbrev pub more : ℕ → Item → ℕ
more sum x = (sum + weight_of x % 2 ^ 64) % 2 ^ 64

pub sum_is : (sum : ℕ) (xs : List Item) → sum < 2 ^ 64 → fold more sum xs ≡ (sum + total_of xs) % 2 ^ 64
sum_is sum [] small = omega arith
sum_is sum (x ∷ xs) small = sum_is (more sum x) xs (omega arith) ∙ omega arith
