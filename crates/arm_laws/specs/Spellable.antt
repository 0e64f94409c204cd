-- The witnesses whose texts are patterns.
use Rattle.std.specs.Prelude.{◌≡◌, ℕ, pos, negsuc, suc, ◌<◌, ◌^◌, Bool, true, false, not, ◌&&◌, ◌||◌, Option, Some}
use Rattle.std.specs.Prelude.{None}
use Rattle.std.specs.Prelude.{is_some}
use lib.Utf8.{scalar, scalars}
use Rattle.match_model.specs.Numbers.{MEnd, Free, At}
use Rattle.value_syntax.specs.Canonical.{IsName, IsFormName}
use Rattle.witness_text.specs.Texts.{text_of}
use Rattle.witness_text.specs.Trees.{WitnessTree, OfInts, OfChars, OfText, OfTuple, OfUnitForm, OfTupleForm}
use Rattle.witness_text.specs.Trees.{OfBraceForm, OfPoint, OfRow, WitnessTrees, no_trees, more_trees, FieldTrees}
use Rattle.witness_text.specs.Trees.{no_fields, more_fields}
use Rattle.arm_laws.specs.Patterns.{range_written}

-- an end is free, or at a number of at most 128 bits
abbrev pub IsShortEnd : MEnd → Type 0
IsShortEnd Free = Unit {0}
IsShortEnd (At (pos n)) = n < 2 ^ 128
IsShortEnd (At (negsuc n)) = suc n < 2 ^ 128

-- a character is a Unicode scalar value, where there is one
abbrev pub IsScalarEnd : Option ℕ → Type 0
IsScalarEnd None = Unit {0}
IsScalarEnd (Some c) = scalar c ≡ true

abbrev mutual
  -- the names of the witness are identifiers, its characters and texts are Unicode, and its numbers have at most 128
  -- bits where they are written
  pub IsSpellable : WitnessTree → Type 0
  IsSpellable (OfInts kind r) = IsShortEnd (range_written kind r).low × IsShortEnd (range_written kind r).high
  IsSpellable (OfChars low high) = IsScalarEnd low × IsScalarEnd high
  IsSpellable (OfText t) = scalars t ≡ true
  IsSpellable (OfTuple ws) = AreSpellable ws
  IsSpellable (OfUnitForm name) = IsFormName name
  IsSpellable (OfTupleForm name ws) = IsFormName name × AreSpellable ws
  IsSpellable (OfBraceForm name fs) = IsFormName name × AreSpellableFields fs
  IsSpellable (OfPoint mutable w) = IsSpellable w
  IsSpellable (OfRow front longer back) = AreSpellable front × AreSpellable back
  IsSpellable _ = Unit {0}

  pub AreSpellable : WitnessTrees → Type 0
  AreSpellable no_trees = Unit {0}
  AreSpellable (more_trees w ws) = IsSpellable w × AreSpellable ws

  pub AreSpellableFields : FieldTrees → Type 0
  AreSpellableFields no_fields = Unit {0}
  AreSpellableFields (more_fields name w fs) = IsName name × IsSpellable w × AreSpellableFields fs

-- a text stands in the witness only behind a shared reference
abbrev mutual
  pub is_referred : WitnessTree → Bool
  is_referred (OfText t) = false
  is_referred (OfTuple ws) = are_referred ws
  is_referred (OfTupleForm name ws) = are_referred ws
  is_referred (OfBraceForm name fs) = fields_referred fs
  is_referred (OfPoint mutable w) = (not mutable && is_some (text_of w)) || is_referred w
  is_referred (OfRow front longer back) = are_referred front && are_referred back
  is_referred _ = true

  pub are_referred : WitnessTrees → Bool
  are_referred no_trees = true
  are_referred (more_trees w ws) = is_referred w && are_referred ws

  pub fields_referred : FieldTrees → Bool
  fields_referred no_fields = true
  fields_referred (more_fields name w fs) = is_referred w && fields_referred fs
