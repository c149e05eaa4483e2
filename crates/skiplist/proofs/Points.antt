-- The known points, computed: each side of an equation comes to the same number.
-- So the definitions are those that were meant.
use Rattle.std.proofs.Common.{refl, lit<, lit≤}
use lib.Count.{ones, ones_in, count_trailing_zeros}
use Rattle.skiplist.specs.Layout.{start_of}
use Rattle.skiplist.specs.Laws.{KnownPlaces}

pub known_points : KnownPlaces
unfolding ones ones_in count_trailing_zeros start_of
known_points = record {
  last_of_zero = record { block = refl; byte = refl; stands = record { after = lit≤ tt; before = lit< tt; at = refl } };
  first_of_one = record { block = refl; byte = refl; stands = record { after = lit≤ tt; before = lit< tt; at = refl } };
  first_of_two = record { block = refl; byte = refl; stands = record { after = lit≤ tt; before = lit< tt; at = refl } };
  words_of_zero = refl;
  words_of_one = refl;
  words_of_two = refl;
  words_of_three = refl;
  words_of_four = refl;
  words_of_eight = refl;
}
