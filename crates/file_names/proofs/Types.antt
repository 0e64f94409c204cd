-- What holds of tokens holds of those behind a type.
use Rattle.std.proofs.Common.{ℕ, zero, suc, ◌∷◌}
use Rattle.decl_lexer.specs.declared.marks.Mark.TheVariants as marks
use Rattle.decl_lexer.specs.declared.words.Word.TheVariants as words
use Rattle.decl_syntax.specs.Grammar.{Spelling}
use Rattle.decl_syntax.specs.TypeGrammar.{ArgumentForm, lifetime, argument, TypeForm, never, unit, round, tuple}
use Rattle.decl_syntax.specs.TypeGrammar.{point, slice, array, named, applied, SpellsType}
use Rattle.decl_syntax.specs.Types.{TypeTree}
use Rattle.decl_syntax.specs.Units.{is_word, is_lifetime}
use Rattle.file_names.proofs.Kept.{Kept, list_kept, maybe_kept}

module _ (Inner : Spelling TypeTree) (inner : Kept Inner) where
  argument_kept : Kept (ArgumentForm Inner)
  argument_kept _ _ _ (lifetime t rest e) g = g.1
  argument_kept _ _ _ (argument ts rest x i) g = inner ts rest x i g

  form_kept : Kept (TypeForm Inner)
  form_kept _ _ _ (never bang rest e) g = g.1
  form_kept _ _ _ (unit opening closing rest e f) g = g.1.1
  form_kept _ _ _ (round opening closing ts rest x e i f) g = (inner ts (closing ∷ rest) x i g.1).1
  form_kept _ _ _ (tuple opening comma ts us rest first others e i f more) g =
      list_kept marks.CloseRound Inner inner us rest others more (inner ts (comma ∷ us) first i g.1).1
  form_kept _ _ _ (point and ts us vs rest life mutable x e l m i) g =
      inner vs rest x i (maybe_kept (is_word words.Mut) us vs mutable m (maybe_kept is_lifetime ts us life l g.1))
  form_kept _ _ _ (slice opening closing ts rest x e i f) g = (inner ts (closing ∷ rest) x i g.1).1
  form_kept _ _ _ (array opening semicolon number closing ts rest x len suffix decimal e i f n c) g =
      (inner ts (semicolon ∷ number ∷ closing ∷ rest) x i g.1).1.1.1
  form_kept _ _ _ (named word rest name raw e n) g = g.1
  form_kept _ _ _ (applied word less ts rest name raw args e f more) g =
      list_kept marks.Greater (ArgumentForm Inner) argument_kept ts rest args more g.1.1

pub type_kept : (n : ℕ) → Kept (SpellsType n)
unfolding SpellsType
type_kept zero ts rest t s g = absurd s
type_kept (suc n) ts rest t s g = form_kept (SpellsType n) (type_kept n) ts rest t s g
