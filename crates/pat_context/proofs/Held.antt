-- The ranges of the program's constructors and sets can be held.
use Rattle.std.proofs.Common.{Some, None, true, false}
use Rattle.match_model.specs.Made.{IsHeldEnd, IsMadeRange, IsMade, IsMadeSet}
use Rattle.range_split.proofs.Held.{kept_held}
use Rattle.range_split.specs.declared.range.Range.{Range}
use Rattle.range_split.specs.declared.range.EndKind.{EndKind}
use Rattle.range_split.specs.declared.range.EndKind.TheVariants as end
use Rattle.range_split.specs.declared.size.Size.{Size}
use Rattle.range_split.specs.Ends.{kept_end}
use Rattle.range_split.specs.Ranges.{plain_range}
use Rattle.pat_context.specs.Views.{plain_ctor, plain_set}
use Rattle.pat_context.specs.declared.ctor.Ctor.{Ctor}
use Rattle.pat_context.specs.declared.ctor.Ctor.TheVariants as c
use Rattle.pat_context.specs.declared.ctor.CtorSet.{CtorSet}
use Rattle.pat_context.specs.declared.ctor.CtorSet.TheVariants as s

held_end : (k : EndKind) (s : Size) → IsHeldEnd (kept_end k s)
held_end end.Free s = tt
held_end end.Negative s = kept_held true s
held_end end.Positive s = kept_held false s

made_range : (r : Range) → IsMadeRange (plain_range r)
made_range r = record { up = r.ascending; low = held_end r.low_kind r.low_size; high = held_end r.high_kind r.high_size }

pub made_ctor : (x : Ctor) → IsMade (plain_ctor x)
made_ctor (c.Numbers r) = made_range r
made_ctor c.Single = tt
made_ctor c.Point = tt
made_ctor (c.Variant k) = tt
made_ctor c.Later = tt
made_ctor (c.Flag b) = tt
made_ctor (c.Text t) = tt
made_ctor c.OtherText = tt
made_ctor (c.Row s) = tt
made_ctor c.Wild = tt
made_ctor c.Or = tt

pub made_set : (x : CtorSet) → IsMadeSet (plain_set x)
made_set (s.Numbers first None) = (made_range first, tt)
made_set (s.Numbers first (Some r)) = (made_range first, made_range r)
made_set s.Single = tt
made_set s.Point = tt
made_set (s.Variants count later) = tt
made_set s.Flags = tt
made_set s.Texts = tt
made_set (s.Rows len) = tt
made_set s.Opaque = tt
made_set s.Nothing = tt
