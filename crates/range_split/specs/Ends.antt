-- Ends of ranges as the definitions have them.
use Rattle.std.specs.Prelude.{Bool, true, false, not, nat_eq, int_lt}
use Rattle.match_model.specs.Numbers as model
pub use Rattle.match_model.specs.Numbers.{ends_ascend}
use Rattle.match_model.specs.Numbers.{MEnd}
use Rattle.range_split.specs.declared.end.End.{End}
use Rattle.range_split.specs.declared.end.End.TheVariants.{Free, At}
use Rattle.range_split.specs.declared.range.EndKind.{EndKind}
use Rattle.range_split.specs.declared.range.EndKind.TheVariants as kind
use Rattle.range_split.specs.declared.size.Size.{Size}
use Rattle.range_split.specs.Numbers.{signed, num_value, whole_size}

-- the end, as the definitions have it
abbrev pub plain_end : End → MEnd
plain_end Free = model.Free
plain_end (At n) = model.At (num_value n)

-- a high end is below a low one
abbrev pub ends_are_apart : (high low : MEnd) → Bool
ends_are_apart (model.At b) (model.At a) = int_lt b a
ends_are_apart _ _ = false

-- the end that a range keeps so
abbrev pub kept_end : EndKind → Size → MEnd
kept_end kind.Free s = model.Free
kept_end kind.Negative s = model.At (signed true (whole_size s))
kept_end kind.Positive s = model.At (signed false (whole_size s))

-- an end is kept in one way: a free one with the size zero, and zero as no negative number
abbrev pub is_kept : EndKind → Size → Bool
is_kept kind.Free s = nat_eq (whole_size s) 0
is_kept kind.Negative s = not (nat_eq (whole_size s) 0)
is_kept kind.Positive s = true
