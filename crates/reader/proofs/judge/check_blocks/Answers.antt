-- The blocks of a file are checked as a file's are.
use Rattle.std.proofs.Common.{◌≡◌, Some, rules}
use Rattle.pairs.specs.declared.entry.Content.TheVariants.{SkipList}
use Rattle.reader.proofs.Judging.{file_content}
use Rattle.reader.proofs.judge.check_blocks.Goals as goal

pub returns-in-Some-SkipList : goal.returns-in-Some-SkipList
returns-in-Some-SkipList g c = λ b seen marks.
    let head = c.in-Some-SkipList.head in
    let size = c.in-Some-SkipList.size in
    let is : c.args.content ≡ Some (SkipList head size) = search rules in
    file_content _ b seen c.args.content head size c.check_file.result c.check_file.new.used c.requires.card (c.requires.sized b) is (c.check_file.ensures seen marks)
