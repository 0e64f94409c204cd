-- What holds of tokens holds of those behind a pattern.
use Rattle.std.proofs.Common.{ℕ, zero, suc, [], ◌∷◌}
use Rattle.decl_lexer.specs.declared.marks.Mark.TheVariants as marks
use Rattle.decl_lexer.specs.declared.words.Word.TheVariants as words
use Rattle.decl_lexer.specs.Begins.{Lexeme}
use Rattle.decl_syntax.specs.EndGrammar.{OneToken, one_token, IsSegment, SpellsPath, SpellsEnd, plain_end}
use Rattle.decl_syntax.specs.EndGrammar.{negative_end, path_end, SpellsRange, both_ends, low_end, high_end}
use Rattle.decl_syntax.specs.FieldNames.{SpellsLabel, label}
use Rattle.decl_syntax.specs.Grammar.{Spelling}
use Rattle.decl_syntax.specs.PatternGrammar.{SpellsBinding, binding, AltForm, a_range, a_plain, PatternForm, one}
use Rattle.decl_syntax.specs.PatternGrammar.{several, ItemForm, a_rest, a_pattern, SpellsBoundRest, bound_rest}
use Rattle.decl_syntax.specs.PatternGrammar.{SliceItemForm, a_bound_rest, an_item, FieldForm, labelled, shorthand}
use Rattle.decl_syntax.specs.PatternGrammar.{FieldList, all_closed, all_dotted, last_field, next_field, PlainForm}
use Rattle.decl_syntax.specs.PatternGrammar.{wild, literal, negative, bound_as, bound, path, tuple_form, brace_form}
use Rattle.decl_syntax.specs.PatternGrammar.{unit, only_rest, group, tuple, slice, point, SpellsPlain}
use Rattle.decl_syntax.specs.PatternGrammar.{SpellsPattern}
use Rattle.decl_syntax.specs.Patterns.{Shape}
use Rattle.decl_syntax.specs.Units.{is_mark, is_word}
use Rattle.file_names.proofs.Kept.{Kept, list_kept, separated_kept, maybe_kept, attributes_kept}

-- ---- paths, ranges and bindings

one_kept : {A : Type 0} (Means : Lexeme → A → Type 0) → Kept (OneToken Means)
one_kept Means _ _ _ (one_token t rest x m) g = g.1

path_kept : Kept SpellsPath
path_kept = separated_kept marks.PathSeparator (OneToken IsSegment) (one_kept IsSegment)

end_kept : Kept SpellsEnd
end_kept _ _ _ (plain_end t rest x e) g = g.1
end_kept _ _ _ (negative_end minus t rest x e n) g = g.1.1
end_kept _ _ _ (path_end ts rest segments p) g = path_kept ts rest segments p g

range_kept : Kept SpellsRange
range_kept _ _ _ (both_ends ts us rest mark low high closed l m h) g =
    end_kept us rest high h (end_kept ts (mark ∷ us) low l g).1
range_kept _ _ _ (low_end ts rest mark low l m n) g = (end_kept ts (mark ∷ rest) low l g).1
range_kept _ _ _ (high_end us rest mark high closed m h) g = end_kept us rest high h g.1

binding_kept : Kept SpellsBinding
binding_kept _ _ _ (binding ts us rest word by_ref mutable name raw r m e) g =
    (maybe_kept (is_word words.Mut) us (word ∷ rest) mutable m (maybe_kept (is_word words.Ref) ts us by_ref r g)).1

bound_rest_kept : Kept SpellsBoundRest
bound_rest_kept _ _ _ (bound_rest ts rest at dots b s a d n) g = (binding_kept ts (at ∷ dots ∷ rest) b s g).1.1

label_kept : Kept SpellsLabel
label_kept _ _ _ (label t colon rest name e c) g = g.1.1

-- ---- patterns

module _ (Plain : Spelling Shape) (plain : Kept Plain) where
  alt_kept : Kept (AltForm Plain)
  alt_kept _ _ _ (a_range ts rest shape s) g = range_kept ts rest shape s g
  alt_kept _ _ _ (a_plain ts rest shape n s) g = plain ts rest shape s g

  form_kept : Kept (PatternForm Plain)
  form_kept _ _ _ (one ts us rest bar p m s) g =
      separated_kept marks.Bar (AltForm Plain) alt_kept us rest (p ∷ []) s
      (maybe_kept (is_mark marks.Bar) ts us bar m g)
  form_kept _ _ _ (several ts us rest bar p q ps m s) g =
      separated_kept marks.Bar (AltForm Plain) alt_kept us rest (p ∷ q ∷ ps) s
      (maybe_kept (is_mark marks.Bar) ts us bar m g)

  item_kept : Kept (ItemForm Plain)
  item_kept _ _ _ (a_rest dots rest e n) g = g.1
  item_kept _ _ _ (a_pattern ts rest p s) g = form_kept ts rest p s g

  slice_item_kept : Kept (SliceItemForm Plain)
  slice_item_kept _ _ _ (a_bound_rest ts rest p s) g = bound_rest_kept ts rest p s g
  slice_item_kept _ _ _ (an_item ts rest p n s) g = item_kept ts rest p s g

  field_kept : Kept (FieldForm Plain)
  field_kept _ _ _ (labelled ts us vs rest attrs name p a l s) g =
      form_kept vs rest p s (label_kept us vs name l (attributes_kept ts us attrs a g))
  field_kept _ _ _ (shorthand ts us rest attrs b a n s) g = binding_kept us rest b s (attributes_kept ts us attrs a g)

  fields_kept : Kept (FieldList Plain)
  fields_kept _ _ _ (all_closed t rest e) g = g.1
  fields_kept _ _ _ (all_dotted dots t rest d e) g = g.1.1
  fields_kept _ _ _ (last_field ts rest f t s e) g = (field_kept ts (t ∷ rest) f s g).1
  fields_kept _ _ _ (next_field ts us rest f fs dotted t s e more) g =
      fields_kept us rest (fs, dotted) more (field_kept ts (t ∷ us) f s g).1

  plain_kept : Kept (PlainForm Plain)
  plain_kept _ _ _ (wild t rest e) g = g.1
  plain_kept _ _ _ (literal t rest x e) g = g.1
  plain_kept _ _ _ (negative minus t rest x e n) g = g.1.1
  plain_kept _ _ _ (bound_as ts us rest at b p s e a) g = alt_kept us rest p a (binding_kept ts (at ∷ us) b s g).1
  plain_kept _ _ _ (bound ts rest b s e n) g = binding_kept ts rest b s g
  plain_kept _ _ _ (path ts rest segments s n m k) g = path_kept ts rest segments s g
  plain_kept _ _ _ (tuple_form ts us rest segments opening ps s o more) g =
      list_kept marks.CloseRound (ItemForm Plain) item_kept us rest ps more (path_kept ts (opening ∷ us) segments s g).1
  plain_kept _ _ _ (brace_form ts us rest segments opening fs dotted s o more) g =
      fields_kept us rest (fs, dotted) more (path_kept ts (opening ∷ us) segments s g).1
  plain_kept _ _ _ (unit opening closing rest e f) g = g.1.1
  plain_kept _ _ _ (only_rest opening dots closing rest o d c) g = g.1.1.1
  plain_kept _ _ _ (group opening closing ts rest p o s c) g = (form_kept ts (closing ∷ rest) p s g.1).1
  plain_kept _ _ _ (tuple opening comma ts us rest first others o i c more) g =
      list_kept marks.CloseRound (ItemForm Plain) item_kept us rest others more
      (item_kept ts (comma ∷ us) first i g.1).1
  plain_kept _ _ _ (slice opening ts rest ps o more) g =
      list_kept marks.CloseSquare (SliceItemForm Plain) slice_item_kept ts rest ps more g.1
  plain_kept _ _ _ (point and ts us rest mutable inner e m s) g =
      plain us rest inner s (maybe_kept (is_word words.Mut) ts us mutable m g.1)

level_kept : (n : ℕ) → Kept (SpellsPlain n)
unfolding SpellsPlain
level_kept zero ts rest x s g = absurd s
level_kept (suc n) ts rest x s g = plain_kept (SpellsPlain n) (level_kept n) ts rest x s g

pub pattern_kept : Kept SpellsPattern
unfolding SpellsPattern
pattern_kept ts rest p s g = form_kept (SpellsPlain 64) (level_kept 64) ts rest p s.0 g
