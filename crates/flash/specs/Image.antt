-- A card's blocks as they lie in one run of bytes, one behind the other.
-- And the card that such a run is, for a device that only reads it.
use Rattle.std.specs.Prelude.{◌≡◌, ℕ, zero, suc, ◌-◌, ◌/◌, ◌%◌, ◌^◌, min, Bool, true, false, ◌&&◌, List, [], ◌∷◌, length, take, drop, replicate, Some, None, Option, ◌==◌, nat_lt}
use Rattle.flash.specs.Card.{Card}

-- n blocks of a size
abbrev pub blocks_of : ℕ → ℕ → List ℕ → List (List ℕ)
blocks_of size zero xs = []
blocks_of size (suc n) xs = take size xs ∷ blocks_of size n (drop size xs)

-- how many whole blocks of a size n bytes have, as far as 32 bits number them
abbrev pub blocks_in : ℕ → ℕ → ℕ
blocks_in size n = min (n / size) (2 ^ 32 - 1)

-- the card in a run of bytes: blocks of a size as far as the bytes go, all of them good, with the power there
abbrev pub image_card : ℕ → List ℕ → Card
image_card size xs = record { size = size; blocks = blocks_of size (blocks_in size (length xs)) xs; good = replicate (blocks_in size (length xs)) true; dark = false }

-- whether bytes are a whole number of blocks of a size, and few enough to be numbered by 32 bits
abbrev pub is_image : ℕ → List ℕ → Bool
is_image size xs = nat_lt 0 size && (length xs % size == 0 && nat_lt (length xs / size) (2 ^ 32))

-- The answer to a request for a card in bytes, where `card` is the card that an answer means: exactly their blocks, or
-- none where the bytes are no whole number of blocks, or too many.
abbrev pub Images : {T : Type 0} → (T → Card) → ℕ → List ℕ → Option T → Type 0
Images card size xs (Some image) = (is_image size xs ≡ true) × (card image ≡ record { size = size; blocks = blocks_of size (length xs / size) xs; good = replicate (length xs / size) true; dark = false })
Images card size xs None = is_image size xs ≡ false
