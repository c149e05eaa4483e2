-- Lemmas on what the program makes.
mod Root
