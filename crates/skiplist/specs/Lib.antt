-- The definitions that the contracts cite: sizes, the layout of a file, places in it, steps back through it, and laws
-- of the whole. A layer above imports them from here.
pub mod Sizes
pub mod Layout
pub mod Places
pub mod Strides
pub mod Laws
