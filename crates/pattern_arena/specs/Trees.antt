-- Patterns, arms and matches of an arena as the definitions have them.
use Rattle.std.specs.Prelude.{List, map}
use Rattle.match_model.specs.Constructors.{MCtor}
use Rattle.match_model.specs.ArenaPatterns.{MPart, WholePart, MiddlePart, MBound, MDePat, de_pat, de_pats_of, MDeArm, MDeMatch}
use Rattle.pat_context.specs.Views.{plain_ctor, is_sure}
use Rattle.pattern_arena.specs.declared.pattern.Part.{Part}
use Rattle.pattern_arena.specs.declared.pattern.Part.TheVariants.{Whole, Middle}
use Rattle.pattern_arena.specs.declared.pattern.Bound.{Bound}
use Rattle.pattern_arena.specs.declared.pattern.DePat.{DePat, DePat-F, fold-DePat, out-DePat}
use Rattle.pattern_arena.specs.declared.matches.CheckedArm.{CheckedArm}
use Rattle.pattern_arena.specs.declared.matches.CheckedMatch.{CheckedMatch}

-- what a name holds, as the definitions have it
abbrev pub plain_part : Part → MPart
plain_part Whole = WholePart
plain_part (Middle front back) = MiddlePart front back

-- a name that a pattern binds, as the definitions have it: by its bytes
abbrev pub plain_bound : Bound → MBound
plain_bound b = record { name = b.name.now; mode = b.mode; part = plain_part b.part }

-- the tree of a pattern from the trees of those below it
abbrev pub tree_step : {T : Type 0} → DePat-F T (MDePat T) → MDePat T
tree_step f = de_pat (plain_ctor f.form.now.ctor) f.form.now.ty f.uid f.at (de_pats_of f.form.now.subs.now) (map plain_bound f.form.now.binds.now)

-- the plain tree of a pattern
abbrev pub tree : {T : Type 0} → DePat T → MDePat T
tree {T} = fold-DePat T (MDePat T) tree_step

-- the constructor of a pattern, as it stands in the arena
abbrev pub placed_ctor : {T : Type 0} → DePat T → MCtor
placed_ctor {T} p = plain_ctor (out-DePat T p).form.now.ctor

-- the patterns below, as they stand in the arena
abbrev pub placed_subs : {T : Type 0} → DePat T → List (DePat T)
placed_subs {T} p = (out-DePat T p).form.now.subs.now

-- the arm, as the definitions have it
abbrev pub plain_arm : {T : Type 0} → CheckedArm T → MDeArm T
plain_arm a = record { pat = tree a.pat; guarded = a.guarded }

-- the match, as the definitions have it
abbrev pub plain_match : {T : Type 0} → CheckedMatch T → MDeMatch T
plain_match m = record { type = m.ty; sure = is_sure m.validity; arms = map plain_arm m.arms.now }
