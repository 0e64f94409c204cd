-- What another crate reads, as a reading.
use Rattle.std.proofs.Common.{◌≡◌, List, Some, None, Result, Ok, Err, refl}
use Rattle.std.specs.Prelude.{IfOk, IfErr}
use Rattle.decl_lexer.specs.declared.marks.Mark.TheVariants as marks
use Rattle.decl_lexer.specs.Lexing.{Placed}
use Rattle.decl_syntax.specs.declared.stop.Stop.{Stop}
use Rattle.decl_syntax.specs.declared.stop.Stop.TheVariants as stops_at
use Rattle.decl_syntax.specs.Grammar.{Spelling, NoneSpelled}
use Rattle.decl_syntax.specs.Runs.{SpellsAttribute, SpellsAttributes}
use Rattle.decl_syntax.specs.Reading.{Read, Gives}
use Rattle.decl_syntax.specs.RunReading.{attribute_at, attributes_at}
use Rattle.decl_syntax.proofs.Joined.{Joined, many_sound, many_complete}
use Rattle.decl_syntax.proofs.RunLaws.{attributes}

-- a relation and a reading of it, which may be of no token
pub record Reads {A : Type 0} (P : Spelling A) (read : List Placed → Read A) : Type 0 where
  pub sound : (ts : List Placed) (y : A × List Placed) → read ts ≡ Some y → P ts y.0 y.1
  pub complete : (ts rest : List Placed) (x : A) → P ts x rest → read ts ≡ Some (x, rest)

pub joined_reads : {A : Type 0} (P : Spelling A) (read : List Placed → Read A) → Joined P read → Reads P read
joined_reads P read h = record { sound = h.sound; complete = h.complete }

pub attributes_read : Reads SpellsAttributes attributes_at
unfolding attributes_at
attributes_read = record {
  sound = λ ts y e. many_sound marks.Hash SpellsAttribute attribute_at attributes ts y e;
  complete = λ ts rest x s. many_complete marks.Hash SpellsAttribute attribute_at attributes ts rest x s;
}

-- what a function found or did not find is what is read
pub gives_read : {A X : Type 0} (P : Spelling A) (read : List Placed → Read A) (h : Reads P read) (view : X → A × List Placed) (ts : List Placed) (r : Result X Stop)
    → IfOk r (λ x. P ts (view x).0 (view x).1) → IfErr r (NoneSpelled P ts) → Gives view r (read ts)
gives_read P read h view ts (Ok x) f n = h.complete ts (view x).1 (view x).0 f
gives_read P read h view ts (Err stops_at.Memory) f n = tt
gives_read {A = A} P read h view ts (Err stops_at.Syntax) f n = by_case (read ts) refl
  where
    by_case : (o : Read A) → read ts ≡ o → o ≡ None
    by_case None e = refl
    by_case (Some y) e = absurd (n y.0 y.1 (h.sound ts y e))
