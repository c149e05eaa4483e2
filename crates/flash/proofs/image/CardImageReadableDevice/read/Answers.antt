-- What lies inside a block lies inside the run of bytes, and is the part of the block that was asked for.
use Rattle.std.proofs.Common.{length, sym, refl, ap, ◌∙◌, arith, rules}
use Rattle.flash.specs.ImageCards.{image_part, image_within, image_read, image_outside}
use Rattle.flash.proofs.image.CardImageReadableDevice.read.Goals as goal

pub returns-then-not-is_inside : goal.returns-then-not-is_inside
returns-then-not-is_inside g c =
    (image_outside c.args.self.now.geometry.block_size (g.B.AsSlice.items c.args.self.now.image) c.args.block c.args.at _ (rw c.args.self.now.fits at (sym c.if-not-is_inside.ensures)), refl)

pub slice_bounds-copy_from_slice-end : goal.slice_bounds-copy_from_slice-end
slice_bounds-copy_from_slice-end g c =
    let within = image_within c.args.self.now.geometry.block_size (g.B.AsSlice.items c.args.self.now.image) c.args.block c.args.at (length c.args.out.now) (rw c.args.self.now.fits at (sym c.if-not-is_inside.ensures)) in
    let long = ap length c.bytes.ensures in
    omega arith

pub returns : goal.returns
returns g c =
    let h = rw c.args.self.now.fits at (sym c.if-not-is_inside.ensures) in
    let is = image_part c.args.self.now.geometry.block_size (g.B.AsSlice.items c.args.self.now.image) c.args.block c.args.at (length c.args.out.now) h in
    (image_read c.args.self.now.geometry.block_size (g.B.AsSlice.items c.args.self.now.image) c.args.block c.args.at _ h, c.copy_from_slice.ensures.after ∙ search (rules, sym is))
