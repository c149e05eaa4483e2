-- Lemmas on the cells of a part and on half writes.
pub mod RunChecked
pub mod RunReplaced
pub mod RunHalves
pub mod Checked
pub mod Replaced
pub mod Halves
pub mod Marks
