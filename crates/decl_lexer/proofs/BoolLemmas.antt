-- A test that is not true is false, by the name that crates above cite.
pub use Rattle.std.proofs.lemmas.Bool.{false_from_ne_true as not_equal}
