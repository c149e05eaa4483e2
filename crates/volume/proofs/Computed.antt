-- The examples, each computed from the definitions.
use Rattle.std.proofs.Common.{refl}
use Rattle.metalog.specs.Crc.{step, steps, crc_byte}
use Rattle.metalog.specs.Log as log
use Rattle.metalog.specs.Log.{tag_at, closes, closing, step_with, items, start}
use Rattle.metalog.specs.Commit.{body, end_bytes, encode}
use Rattle.volume.specs.State.{effect_of, applied, fold_items}
use Rattle.volume.specs.Pair.{read_pair}
use Rattle.volume.specs.Thread.{pair_fault, walk}
use Rattle.volume.specs.Global.{is_root, hiding_of}
use Rattle.volume.specs.Tree.{order, is_name, child}
use Rattle.volume.specs.Check.{node_of, scan_items, scan_dir, check}
use Rattle.volume.specs.Paths.{path_of, find}
use Rattle.volume.specs.Examples.{Examples}

pub examples : Examples
unfolding step steps crc_byte tag_at closes closing step_with log.step items start body end_bytes encode effect_of applied fold_items read_pair pair_fault walk is_root hiding_of node_of scan_items scan_dir check order is_name child path_of find
examples = record { empty = refl; vega = refl; erased = refl; unordered = refl; unknown = refl; outside = refl; back = refl; hidden = refl; moved_up = refl; joined = refl; orphan = refl; orphan_told = refl; newer_first = refl; newer_second = refl; no_newer = refl; ending_id = refl; eight = refl; nine = refl; moved_down = refl; not_shown = refl; on_the_way = refl }
