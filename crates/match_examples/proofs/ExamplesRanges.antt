-- Worked examples: what written ranges mean at their types, and which patterns the source can have.
use Rattle.std.proofs.Common.{◌≡◌, pos, negsuc, true, false, Some, None, refl}
use Rattle.match_model.specs.declared.Width.TheVariants.{Endless, Bits16}
use Rattle.match_model.specs.declared.IntKind.TheVariants.{U8, USize, I8, ISize}
use Rattle.match_model.specs.Types.{CharType, IntType}
use Rattle.match_model.specs.Numbers.{Free, At}
use Rattle.match_model.specs.Patterns.{WildPat, SpanPat, FormPat, OrPat, no_numbered, more_numbered}
use Rattle.match_model.specs.SourcePatterns.{written_range, is_formed, offsets_differ, offsets_ascend}
use Rattle.match_examples.proofs.ExamplesWays.{either_side}

-- `3..` and `..3` and `..=3` on `u8` and `i8`
pub open_ends : (written_range Endless (IntType U8) (Some (pos 3)) false None ≡ record { low = At (pos 3); high = At (pos 255) }) × (written_range Endless (IntType U8) None false (Some (pos 3)) ≡ record { low = At (pos 0); high = At (pos 2) }) × (written_range Endless (IntType I8) None true (Some (pos 3)) ≡ record { low = At (negsuc 127); high = At (pos 3) })
open_ends = (refl, refl, refl)

-- `255..` on `u8` is one number, and so no range is met
pub last_alone : written_range Endless (IntType U8) (Some (pos 255)) false None ≡ record { low = At (pos 255); high = At (pos 255) }
last_alone = refl

-- an open end of `usize` is free above, of `isize` on both sides; with a width neither is
pub endless_ends : (written_range Endless (IntType USize) None false None ≡ record { low = At (pos 0); high = Free }) × (written_range Endless (IntType ISize) None false (Some (pos 0)) ≡ record { low = Free; high = At (negsuc 0) }) × (written_range Bits16 (IntType USize) (Some (pos 3)) false None ≡ record { low = At (pos 3); high = At (pos 65535) })
endless_ends = (refl, refl, refl)

-- an exclusive end of `char` is brought to the scalar value before it, over the surrogates
pub over_surrogates : (written_range Endless CharType (Some (pos 97)) false (Some (pos 0xe000)) ≡ record { low = At (pos 97); high = At (pos 0xd7ff) }) × (written_range Endless CharType (Some (pos 97)) false (Some (pos 0xe001)) ≡ record { low = At (pos 97); high = At (pos 0xe000) }) × (written_range Endless CharType (Some (pos 97)) false None ≡ record { low = At (pos 97); high = At (pos 0x10ffff) })
over_surrogates = (refl, refl, refl)

-- an or-pattern has two alternatives or more, a form each field once, a range a number
pub formed : (is_formed either_side ≡ true) × (is_formed (OrPat (more_numbered 0 WildPat no_numbered)) ≡ false) × (is_formed (FormPat 0 (more_numbered 1 WildPat (more_numbered 1 WildPat no_numbered))) ≡ false) × (is_formed (SpanPat 0 (record { low = At (pos 5); high = At (pos 3) })) ≡ false)
formed = (refl, refl, refl, refl)

pub offsets : (offsets_differ either_side ≡ true) × (offsets_differ (OrPat (more_numbered 4 WildPat (more_numbered 4 WildPat no_numbered))) ≡ false)
offsets = (refl, refl)

-- offsets that differ need not ascend: here the second alternative stands before the first
pub backwards : (offsets_differ (OrPat (more_numbered 9 WildPat (more_numbered 4 WildPat no_numbered))) ≡ true) × (offsets_ascend (OrPat (more_numbered 9 WildPat (more_numbered 4 WildPat no_numbered))) ≡ false)
backwards = (refl, refl)

pub forwards : offsets_ascend either_side ≡ true
forwards = refl
