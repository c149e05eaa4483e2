-- What is wrong is told with the file's last block.
use Rattle.std.proofs.Common.{sym, subst, rules}
use Rattle.volume.specs.Pair.{fault}
use Rattle.files.specs.Bytes.{ReadsFile}
use Rattle.volume.proofs.Retold.{retold_is}
use Rattle.files.proofs.Outcomes.{reads_retold}
use Rattle.files.proofs.reading.read_file.Goals as goal

pub returns : goal.returns
returns g c =
    let card = g.D.ReadableDevice.meaning c.args.device.now in
    let o = reads_retold (λ w. fault w c.args.head 0) card c.args.head c.args.length c.args.place c.args.out.now c.read_bytes-read.result c.read_bytes-read.new.out c.read_bytes-read.ensures in
    let is = retold_is (λ w. fault w c.args.head 0) _ c.read_bytes-read.result c.map_err.result c.map_err.ensures.cases (λ e f p. search rules) in
    subst (λ r. ReadsFile card c.args.head c.args.length c.args.place (λ w. fault w c.args.head 0) c.args.out.now r c.read_bytes-read.new.out) (sym is) o
