-- The known points, each computed from the definitions.
use Rattle.std.proofs.Common.{refl}
use Rattle.metalog.specs.Crc.{step, steps, crc_byte}
use Rattle.metalog.specs.Known.{KnownPoints}
use Rattle.metalog.specs.Log as log
use Rattle.metalog.specs.Log.{tag_at, closes, closing, step_with, items, start}

pub known_points : KnownPoints
unfolding step steps crc_byte tag_at closes closing step_with log.step items start
known_points = record { check = refl; first = refl; second = refl; first_read = refl; second_read = refl; wraps = refl; erased = refl }
