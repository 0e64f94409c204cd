-- A pattern that is read is spelled so, and one that is spelled so is read.
use Rattle.std.proofs.Common.{◌≡◌, ℕ, zero, suc, ◌-◌, ◌<◌, Bool, true, false, ◌||◌, cond, List, [], ◌∷◌, length, Option, Some, None, refl, ap, subst, ◌∙◌, arith, inl, inr}
use Rattle.decl_lexer.specs.declared.marks.Mark.{Mark}
use Rattle.decl_lexer.specs.declared.marks.Mark.TheVariants as marks
use Rattle.decl_lexer.specs.declared.words.Word.TheVariants as words
use Rattle.decl_lexer.specs.Begins.{Lexeme, Marked}
use Rattle.decl_lexer.specs.Begins as lexemes
use Rattle.decl_lexer.specs.Lexing.{Placed}
use Rattle.decl_syntax.specs.Units.{behind, is_mark, is_word, flag_at, token_at, name_of, first_passes, from_of}
use Rattle.decl_syntax.specs.Patterns.{LitTree, PatternTree, At, Shape, Rest, BindAs, TupleForm, Brace, Tuple, none, more, patterns_from, AttrTree, FieldTree, fields_from, fits}
use Rattle.decl_syntax.specs.Grammar.{Spelling, IsMark, NextIsNot, CommaList, Separated, only, further, Maybe, missing, there, Many, no_more, one_more}
use Rattle.decl_syntax.specs.Runs.{SpellsAttribute}
use Rattle.decl_syntax.specs.RunReading.{attribute_at, attributes_at}
use Rattle.decl_syntax.specs.FieldNames.{field_name, SpellsLabel, label}
use Rattle.decl_syntax.specs.EndGrammar.{path_of, one_token, Segment, IsSegment, a_name, the_crate, the_value, the_parent, the_type, SpellsPath, SpellsEnd, begins_end, IsRangeMark, two_dots, dots_equal, SpellsRange, both_ends, low_end, high_end}
use Rattle.decl_syntax.specs.EndReading.{segments_at, path_tree_at, literal_of, negated_of, range_at}
use Rattle.decl_syntax.specs.PatternGrammar.{Binding, SpellsBinding, binding, path_shape, AltForm, a_range, a_plain, PatternForm, one, several, ItemForm, a_rest, a_pattern, SpellsBoundRest, bound_rest, SliceItemForm, a_bound_rest, an_item, PlainForm, wild, literal, negative, bound_as, bound, path, tuple_form, FieldForm, labelled, shorthand, FieldList, all_closed, all_dotted, last_field, next_field, brace_form, unit, only_rest, group, tuple, slice, point, SpellsPlain, SpellsPattern}
use Rattle.decl_syntax.specs.PatternReading.{binding_at, bound_at, marked_at, rest_at, alt_at, or_of, whole_at, item_at, bound_rest_at, element_at, closing, items_at, tuple_behind, round_pattern, label_at, field_at, field_list, fields_at, path_pattern_at, unbound_at, plain_form, plain_at, pattern_at}
use Rattle.decl_syntax.specs.Reading.{◌>>=◌, either, Read, parts_at}
use Rattle.decl_syntax.proofs.ListLemmas.{Shrinks}
use Rattle.decl_syntax.proofs.Joined.{some_is, bind_some, either_some, given, mark_only, word_only, behind_some, none_behind, next_is_not, token_some, flag_sound, flag_complete, maybe_shrinks, Joined, read_shrinks, lists, parts, many_sound, many_complete, many_shrinks}
use Rattle.decl_syntax.proofs.RunLaws.{attributes}
use Rattle.decl_syntax.proofs.FieldLemmas.{fields_unfold}
use Rattle.decl_syntax.proofs.TypeLaws.{name_some}
use Rattle.decl_syntax.proofs.EndLaws.{segment_facts, literal_facts, literal_to, negated_to, negated_from, path_heads, paths, end_starts, ranges}

-- ---- bindings

binding_sound : (ts : List Placed) (y : Binding × List Placed) → binding_at ts ≡ Some y → SpellsBinding ts y.0 y.1
unfolding binding_at
binding_sound ts y e =
    let us = (flag_at (is_word words.Ref) ts).1 in
    let m = flag_at (is_word words.Mut) us in
    let n = bind_some (token_at name_of m.1) _ y e in
    let w = name_some m.1 n.0 n.1 in
    let mutable : Maybe (is_word words.Mut) us m.0 m.1 = flag_sound (is_word words.Mut) us in
    given SpellsBinding ts _ y n.2 (binding ts us n.0.1 w.first (flag_at (is_word words.Ref) ts).0 m.0 n.0.0 w.raw (flag_sound (is_word words.Ref) ts) (subst (λ vs. Maybe (is_word words.Mut) us m.0 vs) w.whole mutable) w.is)

binding_complete : (ts rest : List Placed) (b : Binding) → SpellsBinding ts b rest → binding_at ts ≡ Some (b, rest)
unfolding binding_at
binding_complete _ _ _ (binding ts us rest word by_ref mutable name raw r m e) =
    rw (flag_complete (is_word words.Ref) ts us by_ref r, flag_complete (is_word words.Mut) us (word ∷ rest) mutable m, e) refl

binding_shrinks : (ts rest : List Placed) (b : Binding) → SpellsBinding ts b rest → length rest < length ts
binding_shrinks _ _ _ (binding ts us rest word by_ref mutable name raw r m e) =
    omega (arith, maybe_shrinks (is_word words.Ref) ts us by_ref r, maybe_shrinks (is_word words.Mut) us (word ∷ rest) mutable m)

pub bindings : Joined SpellsBinding binding_at
bindings = record { sound = binding_sound; complete = binding_complete; shrinks = binding_shrinks }

-- a first token that is no mark
record HeadsWord (ts : List Placed) : Type 0 where
  first : Placed
  rest : List Placed
  whole : ts ≡ first ∷ rest
  mark : (m : Mark) → is_mark m first.lexeme ≡ false

binding_heads : (ts rest : List Placed) (b : Binding) → SpellsBinding ts b rest → HeadsWord ts
binding_heads _ _ _ (binding _ _ rest word _ _ name raw (missing ts k) (missing _ l) e) = record { first = word; rest = rest; whole = refl; mark = λ m. rw e refl }
binding_heads _ _ _ (binding _ _ rest word _ _ name raw (missing ts k) (there t _ l) e) = let w = word_only words.Mut t.lexeme l in record { first = t; rest = word ∷ rest; whole = refl; mark = λ m. rw w refl }
binding_heads _ _ _ (binding _ us rest word _ _ name raw (there t _ k) l e) = let w = word_only words.Ref t.lexeme k in record { first = t; rest = us; whole = refl; mark = λ m. rw w refl }

unbound : (t : Placed) (ts : List Placed) → is_word words.Ref t.lexeme ≡ false → is_word words.Mut t.lexeme ≡ false → name_of t.lexeme ≡ None → (bound_at (t ∷ ts) ≡ None) × (marked_at (t ∷ ts) ≡ None)
unfolding bound_at marked_at binding_at
unbound t ts r m n = (rw (r, m, n) refl, rw (r, m, n) refl)

mark_unbound : (m : Mark) (t : Placed) (ts : List Placed) → IsMark m t → (bound_at (t ∷ ts) ≡ None) × (marked_at (t ∷ ts) ≡ None)
mark_unbound m t ts e = unbound t ts (rw e refl) (rw e refl) (rw e refl)

name_unbound : (t : Placed) (rest : List Placed) (text : List ℕ) (raw : Bool) → t.lexeme ≡ lexemes.Named text raw → NextIsNot (is_mark marks.At) rest → (bound_at (t ∷ rest) ≡ None) × (marked_at (t ∷ rest) ≡ None)
unfolding bound_at marked_at binding_at
name_unbound t rest text raw e n = (rw (e, none_behind (is_mark marks.At) rest n) refl, rw e refl)

token_unbound : (t : Placed) (rest : List Placed) (x : Segment) → IsSegment t.lexeme x → NextIsNot (is_mark marks.At) rest → (bound_at (t ∷ rest) ≡ None) × (marked_at (t ∷ rest) ≡ None)
token_unbound t rest x s n = by_lexeme t.lexeme x s refl
  where
    by_lexeme : (l : Lexeme) (x : Segment) → IsSegment l x → t.lexeme ≡ l → (bound_at (t ∷ rest) ≡ None) × (marked_at (t ∷ rest) ≡ None)
    by_lexeme _ _ (a_name text raw) e = name_unbound t rest text raw e n
    by_lexeme _ _ the_crate e = unbound t rest (rw e refl) (rw e refl) (rw e refl)
    by_lexeme _ _ the_value e = unbound t rest (rw e refl) (rw e refl) (rw e refl)
    by_lexeme _ _ the_parent e = unbound t rest (rw e refl) (rw e refl) (rw e refl)
    by_lexeme _ _ the_type e = unbound t rest (rw e refl) (rw e refl) (rw e refl)

path_unbound : (ts rest : List Placed) (xs : List Segment) → SpellsPath ts xs rest → NextIsNot (is_mark marks.At) rest → (bound_at ts ≡ None) × (marked_at ts ≡ None)
path_unbound _ _ _ (only _ _ _ (one_token t rest x m) e) n = token_unbound t rest x m n
path_unbound _ _ _ (further _ us rest _ xs s (one_token t _ x m) e others) n = token_unbound t (s ∷ us) x m (rw e refl)

marked_it : (ts rest : List Placed) (b : Binding) → SpellsBinding ts b rest → (b.by_ref || b.mutable) ≡ true → NextIsNot (is_mark marks.At) rest → (bound_at ts ≡ None) × (marked_at ts ≡ Some (b, rest))
unfolding bound_at marked_at
marked_it ts rest b s e n = (rw (binding_complete ts rest b s, none_behind (is_mark marks.At) rest n) refl, rw (binding_complete ts rest b s, e) refl)

abbrev kept_at : Binding → Option (List Placed) → Read Binding
kept_at b o = o >>= λ us. Some (b, us)

marked_some : (ts : List Placed) (y : Binding × List Placed) → marked_at ts ≡ Some y → bound_at ts ≡ None → SpellsBinding ts y.0 y.1 × ((y.0.by_ref || y.0.mutable) ≡ true) × NextIsNot (is_mark marks.At) y.1
unfolding bound_at marked_at
marked_some ts y e free_of =
    let b = bind_some (binding_at ts) _ y e in
    let free : behind (is_mark marks.At) b.0.1 ≡ None = no_at (behind (is_mark marks.At) b.0.1) b.0.0 (rw b.1 at free_of) in
    by_case (b.0.0.by_ref || b.0.0.mutable) refl b.0 (binding_sound ts b.0 b.1) (next_is_not (is_mark marks.At) b.0.1 free) refl b.2
  where
    no_at : (o : Option (List Placed)) (b : Binding) → kept_at b o ≡ None → o ≡ None
    no_at None b e = refl
    no_at (Some us) b e = absurd cc

    by_case : (f : Bool) {g : Bool} → g ≡ f → (b : Binding × List Placed) → SpellsBinding ts b.0 b.1 → NextIsNot (is_mark marks.At) b.1 → (b.0.by_ref || b.0.mutable) ≡ g → cond f (Some b) None ≡ Some y
        → SpellsBinding ts y.0 y.1 × ((y.0.by_ref || y.0.mutable) ≡ true) × NextIsNot (is_mark marks.At) y.1
    by_case true k b s n r e = subst (λ (z : Binding × List Placed). SpellsBinding ts z.0 z.1 × ((z.0.by_ref || z.0.mutable) ≡ true) × NextIsNot (is_mark marks.At) z.1) (some_is _ _ e) (s, r ∙ k, n)
    by_case false k b s n r e = absurd cc

-- ---- rests

rest_it : (dots : Placed) (rest : List Placed) → IsMark marks.TwoDots dots → NextIsNot begins_end rest → rest_at (dots ∷ rest) ≡ Some (At dots.from Rest, rest)
unfolding rest_at
rest_it dots rest e n = rw (e, n) refl

-- `..` that comes first
record HeadsRest (ts : List Placed) (y : PatternTree × List Placed) : Type 0 where
  dots : Placed
  is : IsMark marks.TwoDots dots
  next : NextIsNot begins_end y.1
  whole : ts ≡ dots ∷ y.1
  tree : y.0 ≡ At dots.from Rest

rest_some : (ts : List Placed) (y : PatternTree × List Placed) → rest_at ts ≡ Some y → HeadsRest ts y
unfolding rest_at
rest_some ts y e =
    let b = bind_some (behind (is_mark marks.TwoDots) ts) _ y e in
    let f = behind_some marks.TwoDots ts b.0 b.1 in
    by_case ts (first_passes begins_end b.0) refl f.whole f.is b.2
  where
    by_case : (ts : List Placed) {us : List Placed} {d : Placed} (b : Bool) → first_passes begins_end us ≡ b → ts ≡ d ∷ us → IsMark marks.TwoDots d → cond b None (Some (At (from_of ts) Rest, us)) ≡ Some y → HeadsRest ts y
    by_case ts true n w i e = absurd cc
    by_case ts {us} {d} false n w i e =
        let found : HeadsRest ts (At (from_of ts) Rest, us) = record { dots = d; is = i; next = n; whole = w; tree = rw w refl } in
        subst (λ z. HeadsRest ts z) (some_is _ _ e) found

-- what no pattern begins with
abbrev pub Starts : List Placed → Type 0
Starts ts = (behind (is_mark marks.CloseRound) ts ≡ None) × (behind (is_mark marks.CloseSquare) ts ≡ None) × (rest_at ts ≡ None)

starts_of : (t : Placed) (ts : List Placed) → is_mark marks.CloseRound t.lexeme ≡ false → is_mark marks.CloseSquare t.lexeme ≡ false → is_mark marks.TwoDots t.lexeme ≡ false → Starts (t ∷ ts)
unfolding rest_at
starts_of t ts r s d = (rw r refl, rw s refl, rw d refl)

end_first : (ts rest : List Placed) (x : LitTree) → SpellsEnd ts x rest → Starts ts
unfolding rest_at
end_first ts rest x s = let k = end_starts ts rest x s in (k.round, k.square, rw k.dots refl)

mark_first : (mark : Placed) (us : List Placed) (closed : Bool) → IsRangeMark mark.lexeme closed → first_passes begins_end us ≡ true → Starts (mark ∷ us)
unfolding rest_at
mark_first mark us closed m b = by_lexeme mark.lexeme closed m refl
  where
    by_lexeme : (l : Lexeme) (closed : Bool) → IsRangeMark l closed → mark.lexeme ≡ l → Starts (mark ∷ us)
    by_lexeme _ _ two_dots e = (rw e refl, rw e refl, rw (e, b) refl)
    by_lexeme _ _ dots_equal e = (rw e refl, rw e refl, rw e refl)

range_first : (ts rest : List Placed) (x : Shape) → SpellsRange ts x rest → Starts ts
range_first _ _ _ (both_ends ts us rest mark low high closed s m t) = end_first ts (mark ∷ us) low s
range_first _ _ _ (low_end ts rest mark low s m n) = end_first ts (mark ∷ rest) low s
range_first _ _ _ (high_end us rest mark high closed m t) = mark_first mark us closed m (end_starts us rest high t).begins

path_first : (ts rest : List Placed) (xs : List Segment) → SpellsPath ts xs rest → Starts ts
path_first ts rest xs s =
    let h = path_heads ts rest xs s in
    let f = segment_facts h.first.lexeme h.part h.is in
    rw h.whole (starts_of h.first h.rest (f.mark marks.CloseRound) (f.mark marks.CloseSquare) (f.mark marks.TwoDots))

binding_first : (ts rest : List Placed) (b : Binding) → SpellsBinding ts b rest → Starts ts
binding_first ts rest b s = let h = binding_heads ts rest b s in rw h.whole (starts_of h.first h.rest (h.mark marks.CloseRound) (h.mark marks.CloseSquare) (h.mark marks.TwoDots))

-- ---- a bound rest

pub bound_it : (ts us : List Placed) (at : Placed) (b : Binding) → SpellsBinding ts b (at ∷ us) → IsMark marks.At at → bound_at ts ≡ Some (b, us)
unfolding bound_at
bound_it ts us at b s e = rw (bindings.complete ts (at ∷ us) b s, e) refl

-- a binding and `@` that come first
record HeadsBound (ts : List Placed) (y : Binding × List Placed) : Type 0 where
  at : Placed
  is : IsMark marks.At at
  spelled : SpellsBinding ts y.0 (at ∷ y.1)

bound_some : (ts : List Placed) (y : Binding × List Placed) → bound_at ts ≡ Some y → HeadsBound ts y
unfolding bound_at
bound_some ts y e =
    let b = bind_some (binding_at ts) _ y e in
    let a = bind_some (behind (is_mark marks.At) b.0.1) _ y b.2 in
    let f = behind_some marks.At b.0.1 a.0 a.1 in
    let s = bindings.sound ts b.0 b.1 in
    let found : HeadsBound ts (b.0.0, a.0) = record { at = f.first; is = f.is; spelled = rw f.whole at s } in
    subst (λ z. HeadsBound ts z) (some_is _ _ a.2) found

bound_rest_sound : (ts : List Placed) (y : PatternTree × List Placed) → bound_rest_at ts ≡ Some y → SpellsBoundRest ts y.0 y.1
unfolding bound_rest_at
bound_rest_sound ts y e =
    let b = bind_some (bound_at ts) _ y e in
    let h = bound_some ts b.0 b.1 in
    let r = bind_some (rest_at b.0.1) _ y b.2 in
    let d = rest_some b.0.1 r.0 r.1 in
    let s = h.spelled in
    let found : SpellsBoundRest ts (At (from_of ts) (BindAs b.0.0.name b.0.0.by_ref b.0.0.mutable (At d.dots.from Rest))) r.0.1 = bound_rest ts r.0.1 h.at d.dots b.0.0 (rw d.whole at s) h.is d.is d.next in
    given SpellsBoundRest ts _ y r.2 (rw d.tree found)

bound_rest_complete : (ts rest : List Placed) (p : PatternTree) → SpellsBoundRest ts p rest → bound_rest_at ts ≡ Some (p, rest)
unfolding bound_rest_at
bound_rest_complete _ _ _ (bound_rest ts rest at dots b s e d n) = rw (bound_it ts (dots ∷ rest) at b s e, rest_it dots rest d n) refl

bound_rest_shrinks : (ts rest : List Placed) (p : PatternTree) → SpellsBoundRest ts p rest → length rest < length ts
bound_rest_shrinks _ _ _ (bound_rest ts rest at dots b s e d n) = omega (arith, binding_shrinks ts (at ∷ dots ∷ rest) b s)

bound_rests : Joined SpellsBoundRest bound_rest_at
bound_rests = record { sound = bound_rest_sound; complete = bound_rest_complete; shrinks = bound_rest_shrinks }

-- nothing is read where nothing is spelled
none_read : {A : Type 0} (P : Spelling A) (read : List Placed → Read A) → Joined P read → (ts : List Placed) → ((x : A) (rest : List Placed) → P ts x rest → ⊥) → read ts ≡ None
none_read P read h ts never = by_case (read ts) refl
  where
    by_case : (o : Read _) → read ts ≡ o → o ≡ None
    by_case None e = refl
    by_case (Some y) e = absurd (never y.0 y.1 (h.sound ts y e))

none_spelled : {A : Type 0} (P : Spelling A) (read : List Placed → Read A) → Joined P read → (ts : List Placed) → read ts ≡ None → (x : A) (rest : List Placed) → P ts x rest → ⊥
none_spelled P read h ts nothing x rest p = let read_so = h.complete ts rest x p in cc

-- ---- labels

label_by : (t colon : Placed) (ts rest : List Placed) (name : List ℕ) → ts ≡ colon ∷ rest → field_name t.lexeme (t.to - t.from) ≡ Some name → IsMark marks.Colon colon → SpellsLabel (t ∷ ts) name rest
label_by t colon ts rest name w n c = rw w (label t colon rest name n c)

label_sound : (ts : List Placed) (y : List ℕ × List Placed) → label_at ts ≡ Some y → SpellsLabel ts y.0 y.1
unfolding label_at
label_sound [] y e = absurd cc
label_sound (t ∷ ts) y e =
    let b = bind_some (behind (is_mark marks.Colon) ts) _ y e in
    let f = behind_some marks.Colon ts b.0 b.1 in
    let n = bind_some (field_name t.lexeme (t.to - t.from)) _ y b.2 in
    given SpellsLabel (t ∷ ts) _ y n.2 (label_by t f.first ts b.0 n.0 f.whole n.1 f.is)

label_complete : (ts rest : List Placed) (name : List ℕ) → SpellsLabel ts name rest → label_at ts ≡ Some (name, rest)
unfolding label_at
label_complete _ _ _ (label t colon rest name n c) = rw (c, n) refl

label_shrinks : (ts rest : List Placed) (name : List ℕ) → SpellsLabel ts name rest → length rest < length ts
label_shrinks _ _ _ (label t colon rest name n c) = omega arith

labels : Joined SpellsLabel label_at
labels = record { sound = label_sound; complete = label_complete; shrinks = label_shrinks }

-- no mark is the name of a field
name_no_mark : (l : Lexeme) (width : ℕ) (name : List ℕ) → field_name l width ≡ Some name → (m : Mark) → is_mark m l ≡ false
name_no_mark (Marked n) width name e m = absurd cc
name_no_mark _ width name e m = refl

label_heads : (ts rest : List Placed) (name : List ℕ) → SpellsLabel ts name rest → HeadsWord ts
label_heads _ _ _ (label t colon rest name n c) = record { first = t; rest = colon ∷ rest; whole = refl; mark = name_no_mark t.lexeme (t.to - t.from) name n }

-- what no field begins with
abbrev FieldStarts : List Placed → Type 0
FieldStarts ts = (behind (is_mark marks.CloseCurly) ts ≡ None) × (behind (is_mark marks.TwoDots) ts ≡ None)

word_starts : (ts : List Placed) → HeadsWord ts → FieldStarts ts
word_starts ts k = (rw (k.whole, k.mark marks.CloseCurly) refl, rw (k.whole, k.mark marks.TwoDots) refl)

many_starts : (ts us : List Placed) (attrs : List AttrTree) → Many marks.Hash SpellsAttribute ts attrs us → FieldStarts us → FieldStarts ts
many_starts _ _ _ (no_more ts e) s = s
many_starts _ _ _ (one_more t ts us rest a as_ e item others) s = (rw e refl, rw e refl)

all_attributes : (ts rest : List Placed) (attrs : List AttrTree) → Many marks.Hash SpellsAttribute ts attrs rest → attributes_at ts ≡ Some (attrs, rest)
unfolding attributes_at
all_attributes ts rest attrs s = many_complete marks.Hash SpellsAttribute attribute_at attributes ts rest attrs s

attributes_found : (ts : List Placed) (y : List AttrTree × List Placed) → attributes_at ts ≡ Some y → Many marks.Hash SpellsAttribute ts y.0 y.1
unfolding attributes_at
attributes_found ts y e = many_sound marks.Hash SpellsAttribute attribute_at attributes ts y e

module _ (Plain : Spelling Shape) (plain : List Placed → Read Shape) (h : Joined Plain plain) (starts : (ts rest : List Placed) (x : Shape) → Plain ts x rest → Starts ts) where
  -- ---- alternatives

  alt_sound : (ts : List Placed) (y : PatternTree × List Placed) → alt_at plain ts ≡ Some y → AltForm Plain ts y.0 y.1
  alt_sound ts y e =
      elim (either_some (range_at ts) _ _ y e) [
        | inl a ↦ given (AltForm Plain) ts _ y a.2 (a_range ts a.0.1 a.0.0 (ranges.sound ts a.0 a.1))
        | inr o ↦ (
            let x = bind_some (plain ts) _ y o.1 in
            given (AltForm Plain) ts _ y x.2 (a_plain ts x.0.1 x.0.0 (none_spelled SpellsRange range_at ranges ts o.0) (h.sound ts x.0 x.1)))
      ]

  alt_complete : (ts rest : List Placed) (p : PatternTree) → AltForm Plain ts p rest → alt_at plain ts ≡ Some (p, rest)
  alt_complete _ _ _ (a_range ts rest shape s) = rw (ranges.complete ts rest shape s) refl
  alt_complete _ _ _ (a_plain ts rest shape free s) = rw (none_read SpellsRange range_at ranges ts free, h.complete ts rest shape s) refl

  alt_shrinks : (ts rest : List Placed) (p : PatternTree) → AltForm Plain ts p rest → length rest < length ts
  alt_shrinks _ _ _ (a_range ts rest shape s) = ranges.shrinks ts rest shape s
  alt_shrinks _ _ _ (a_plain ts rest shape free s) = h.shrinks ts rest shape s

  alt_first : (ts rest : List Placed) (p : PatternTree) → AltForm Plain ts p rest → Starts ts
  alt_first _ _ _ (a_range ts rest shape s) = range_first ts rest shape s
  alt_first _ _ _ (a_plain ts rest shape free s) = starts ts rest shape s

  pub alts : Joined (AltForm Plain) (alt_at plain)
  alts = record { sound = alt_sound; complete = alt_complete; shrinks = alt_shrinks }

  all_alts : Joined (Separated marks.Bar (AltForm Plain)) (parts_at marks.Bar (alt_at plain))
  all_alts = parts marks.Bar (AltForm Plain) (alt_at plain) alts

  all_first : (ts rest : List Placed) (ps : List PatternTree) → Separated marks.Bar (AltForm Plain) ts ps rest → Starts ts
  all_first _ _ _ (only ts rest x item e) = alt_first ts rest x item
  all_first _ _ _ (further ts us rest x xs t item e others) = alt_first ts (t ∷ us) x item

  -- ---- patterns

  whole_sound : (ts : List Placed) (y : PatternTree × List Placed) → whole_at plain ts ≡ Some y → PatternForm Plain ts y.0 y.1
  whole_sound ts y e =
      let f = flag_at (is_mark marks.Bar) ts in
      let x = bind_some (parts_at marks.Bar (alt_at plain) f.1) _ y e in
      count_case ts f.1 y f.0 x.0.0 x.0.1 (flag_sound (is_mark marks.Bar) ts) (all_alts.sound f.1 x.0 x.1) x.2
    where
      count_case : (ts us : List Placed) (y : PatternTree × List Placed) (bar : Bool) (ps : List PatternTree) (rest : List Placed) → Maybe (is_mark marks.Bar) ts bar us
          → Separated marks.Bar (AltForm Plain) us ps rest → (or_of (from_of us) ps >>= λ p. Some (p, rest)) ≡ Some y → PatternForm Plain ts y.0 y.1
      count_case ts us y bar [] rest b s e = absurd cc
      count_case ts us y bar (p ∷ []) rest b s e = given (PatternForm Plain) ts _ y e (one ts us rest bar p b s)
      count_case ts us y bar (p ∷ q ∷ ps) rest b s e = given (PatternForm Plain) ts _ y e (several ts us rest bar p q ps b s)

  whole_complete : (ts rest : List Placed) (p : PatternTree) → PatternForm Plain ts p rest → whole_at plain ts ≡ Some (p, rest)
  whole_complete _ _ _ (one ts us rest bar p b s) = rw (flag_complete (is_mark marks.Bar) ts us bar b, all_alts.complete us rest (p ∷ []) s) refl
  whole_complete _ _ _ (several ts us rest bar p q ps b s) = rw (flag_complete (is_mark marks.Bar) ts us bar b, all_alts.complete us rest (p ∷ q ∷ ps) s) refl

  whole_shrinks : (ts rest : List Placed) (p : PatternTree) → PatternForm Plain ts p rest → length rest < length ts
  whole_shrinks _ _ _ (one ts us rest bar p b s) = omega (arith, maybe_shrinks (is_mark marks.Bar) ts us bar b, all_alts.shrinks us rest (p ∷ []) s)
  whole_shrinks _ _ _ (several ts us rest bar p q ps b s) = omega (arith, maybe_shrinks (is_mark marks.Bar) ts us bar b, all_alts.shrinks us rest (p ∷ q ∷ ps) s)

  bar_first : (ts us rest : List Placed) (bar : Bool) (ps : List PatternTree) → Maybe (is_mark marks.Bar) ts bar us → Separated marks.Bar (AltForm Plain) us ps rest → Starts ts
  bar_first _ _ rest _ ps (missing ts n) s = all_first ts rest ps s
  bar_first _ _ rest _ ps (there t us b) s = let e = mark_only marks.Bar t.lexeme b in starts_of t us (rw e refl) (rw e refl) (rw e refl)

  whole_first : (ts rest : List Placed) (p : PatternTree) → PatternForm Plain ts p rest → Starts ts
  whole_first _ _ _ (one ts us rest bar p b s) = bar_first ts us rest bar (p ∷ []) b s
  whole_first _ _ _ (several ts us rest bar p q ps b s) = bar_first ts us rest bar (p ∷ q ∷ ps) b s

  pub wholes : Joined (PatternForm Plain) (whole_at plain)
  wholes = record { sound = whole_sound; complete = whole_complete; shrinks = whole_shrinks }

  -- ---- items

  rest_item : (ts : List Placed) (r : PatternTree × List Placed) → HeadsRest ts r → ItemForm Plain ts r.0 r.1
  rest_item ts r d = rw (d.whole, d.tree) (a_rest d.dots r.1 d.is d.next)

  item_sound : (ts : List Placed) (y : PatternTree × List Placed) → item_at plain ts ≡ Some y → ItemForm Plain ts y.0 y.1
  item_sound ts y e =
      elim (either_some (rest_at ts) _ _ y e) [
        | inl a ↦ given (ItemForm Plain) ts _ y a.2 (rest_item ts a.0 (rest_some ts a.0 a.1))
        | inr o ↦ a_pattern ts y.1 y.0 (whole_sound ts y o.1)
      ]

  item_complete : (ts rest : List Placed) (p : PatternTree) → ItemForm Plain ts p rest → item_at plain ts ≡ Some (p, rest)
  item_complete _ _ _ (a_rest dots rest e n) = rw (rest_it dots rest e n) refl
  item_complete _ _ _ (a_pattern ts rest p s) = rw ((whole_first ts rest p s).2, whole_complete ts rest p s) refl

  item_shrinks : (ts rest : List Placed) (p : PatternTree) → ItemForm Plain ts p rest → length rest < length ts
  item_shrinks _ _ _ (a_rest dots rest e n) = omega arith
  item_shrinks _ _ _ (a_pattern ts rest p s) = whole_shrinks ts rest p s

  -- no item closes a list
  item_opens : (ts rest : List Placed) (p : PatternTree) → ItemForm Plain ts p rest → (behind (is_mark marks.CloseRound) ts ≡ None) × (behind (is_mark marks.CloseSquare) ts ≡ None)
  item_opens _ _ _ (a_rest dots rest e n) = (rw e refl, rw e refl)
  item_opens _ _ _ (a_pattern ts rest p s) = let k = whole_first ts rest p s in (k.0, k.1)

  items : Joined (ItemForm Plain) (item_at plain)
  items = record { sound = item_sound; complete = item_complete; shrinks = item_shrinks }

  abbrev ElementForm : Bool → List Placed → PatternTree → List Placed → Type 0
  ElementForm true = SliceItemForm Plain
  ElementForm false = ItemForm Plain

  slice_sound : (ts : List Placed) (y : PatternTree × List Placed) → element_at true plain ts ≡ Some y → SliceItemForm Plain ts y.0 y.1
  slice_sound ts y e =
      elim (either_some (bound_rest_at ts) _ _ y e) [
        | inl a ↦ given (SliceItemForm Plain) ts _ y a.2 (a_bound_rest ts a.0.1 a.0.0 (bound_rests.sound ts a.0 a.1))
        | inr o ↦ an_item ts y.1 y.0 (none_spelled SpellsBoundRest bound_rest_at bound_rests ts o.0) (item_sound ts y o.1)
      ]

  slice_complete : (ts rest : List Placed) (p : PatternTree) → SliceItemForm Plain ts p rest → element_at true plain ts ≡ Some (p, rest)
  slice_complete _ _ _ (a_bound_rest ts rest p s) = rw (bound_rests.complete ts rest p s) refl
  slice_complete _ _ _ (an_item ts rest p free s) = let k = item_complete ts rest p s in rw (none_read SpellsBoundRest bound_rest_at bound_rests ts free) k

  slice_shrinks : (ts rest : List Placed) (p : PatternTree) → SliceItemForm Plain ts p rest → length rest < length ts
  slice_shrinks _ _ _ (a_bound_rest ts rest p s) = bound_rests.shrinks ts rest p s
  slice_shrinks _ _ _ (an_item ts rest p free s) = item_shrinks ts rest p s

  bound_first : (ts rest : List Placed) (p : PatternTree) → SpellsBoundRest ts p rest → Starts ts
  bound_first _ _ _ (bound_rest ts rest at dots b s e d n) = binding_first ts (at ∷ dots ∷ rest) b s

  slice_opens : (ts rest : List Placed) (p : PatternTree) → SliceItemForm Plain ts p rest → behind (is_mark marks.CloseSquare) ts ≡ None
  slice_opens _ _ _ (a_bound_rest ts rest p s) = (bound_first ts rest p s).1
  slice_opens _ _ _ (an_item ts rest p free s) = (item_opens ts rest p s).1

  pub elements : (square : Bool) → Joined (ElementForm square) (element_at square plain)
  elements true = record { sound = slice_sound; complete = slice_complete; shrinks = slice_shrinks }
  elements false = items

  all_items : (square : Bool) → Joined (CommaList (closing square) (ElementForm square)) (items_at square plain)
  unfolding items_at
  all_items true = lists marks.CloseSquare refl (SliceItemForm Plain) (element_at true plain) (elements true) slice_opens
  all_items false = lists marks.CloseRound refl (ItemForm Plain) (element_at false plain) items (λ ts rest x i. (item_opens ts rest x i).0)

  -- ---- fields

  field_sound : (ts : List Placed) (y : FieldTree × List Placed) → field_at plain ts ≡ Some y → FieldForm Plain ts y.0 y.1
  unfolding field_at
  field_sound ts y e =
      let a = bind_some (attributes_at ts) _ y e in
      let attrs = attributes_found ts a.0 a.1 in
      elim (either_some (label_at a.0.1) _ _ y a.2) [
        | inl l ↦ (
            let p = bind_some (whole_at plain l.0.1) _ y l.2 in
            given (FieldForm Plain) ts _ y p.2 (labelled ts a.0.1 l.0.1 p.0.1 a.0.0 l.0.0 p.0.0 attrs (label_sound a.0.1 l.0 l.1) (whole_sound l.0.1 p.0 p.1)))
        | inr o ↦ (
            let b = bind_some (binding_at a.0.1) _ y o.1 in
            let s = binding_sound a.0.1 b.0 b.1 in
            given (FieldForm Plain) ts _ y b.2 (shorthand ts a.0.1 b.0.1 a.0.0 b.0.0 attrs (none_spelled SpellsLabel label_at labels a.0.1 o.0) s))
      ]

  field_complete : (ts rest : List Placed) (f : FieldTree) → FieldForm Plain ts f rest → field_at plain ts ≡ Some (f, rest)
  unfolding field_at
  field_complete _ _ _ (labelled ts us vs rest attrs name p a l s) = rw (all_attributes ts us attrs a, label_complete us vs name l, whole_complete vs rest p s) refl
  field_complete _ _ _ (shorthand ts us rest attrs b a n s) = rw (all_attributes ts us attrs a, none_read SpellsLabel label_at labels us n, binding_complete us rest b s) refl

  field_shrinks : (ts rest : List Placed) (f : FieldTree) → FieldForm Plain ts f rest → length rest < length ts
  field_shrinks _ _ _ (labelled ts us vs rest attrs name p a l s) =
      omega (arith, many_shrinks marks.Hash SpellsAttribute attribute_at attributes ts us attrs a, label_shrinks us vs name l, whole_shrinks vs rest p s)
  field_shrinks _ _ _ (shorthand ts us rest attrs b a n s) = omega (arith, many_shrinks marks.Hash SpellsAttribute attribute_at attributes ts us attrs a, binding_shrinks us rest b s)

  field_first : (ts rest : List Placed) (f : FieldTree) → FieldForm Plain ts f rest → FieldStarts ts
  field_first _ _ _ (labelled ts us vs rest attrs name p a l s) = many_starts ts us attrs a (word_starts us (label_heads us vs name l))
  field_first _ _ _ (shorthand ts us rest attrs b a n s) = many_starts ts us attrs a (word_starts us (binding_heads us rest b s))

  pub fields : Joined (FieldForm Plain) (field_at plain)
  fields = record { sound = field_sound; complete = field_complete; shrinks = field_shrinks }

  fields_fuel : (fuel : ℕ) (ts : List Placed) (y : (List FieldTree × Bool) × List Placed) → field_list (field_at plain) fuel ts ≡ Some y → FieldList Plain ts y.0 y.1
  fields_fuel zero ts y e = absurd cc
  fields_fuel (suc fuel) ts y e =
      elim (either_some (behind (is_mark marks.CloseCurly) ts) _ _ y e) [
        | inl a ↦ (let b = behind_some marks.CloseCurly ts a.0 a.1 in given (FieldList Plain) ts _ y a.2 (rw b.whole (all_closed b.first a.0 b.is)))
        | inr o ↦ elim (either_some (behind (is_mark marks.TwoDots) ts) _ _ y o.1) [
          | inl d ↦ (
              let dots = behind_some marks.TwoDots ts d.0 d.1 in
              let c = bind_some (behind (is_mark marks.CloseCurly) d.0) _ y d.2 in
              let b = behind_some marks.CloseCurly d.0 c.0 c.1 in
              let whole : ts ≡ dots.first ∷ b.first ∷ c.0 = dots.whole ∙ ap (λ us. dots.first ∷ us) b.whole in
              given (FieldList Plain) ts _ y c.2 (rw whole (all_dotted dots.first b.first c.0 dots.is b.is)))
          | inr p ↦ (
              let r = bind_some (field_at plain ts) _ y p.1 in
              let item = field_sound ts r.0 r.1 in
              elim (either_some (behind (is_mark marks.CloseCurly) r.0.1) _ _ y r.2) [
                | inl a ↦ (let b = behind_some marks.CloseCurly r.0.1 a.0 a.1 in given (FieldList Plain) ts _ y a.2 (last_field ts a.0 r.0.0 b.first (rw b.whole at item) b.is))
                | inr f ↦ (
                    let q = bind_some (behind (is_mark marks.Comma) r.0.1) _ y f.1 in
                    let b = behind_some marks.Comma r.0.1 q.0 q.1 in
                    let s = bind_some (field_list (field_at plain) fuel q.0) _ y q.2 in
                    given (FieldList Plain) ts _ y s.2 (next_field ts q.0 s.0.1 r.0.0 s.0.0.0 s.0.0.1 b.first (rw b.whole at item) b.is (fields_fuel fuel q.0 s.0 s.1)))
              ])
        ]
      ]

  fields_sound : (ts : List Placed) (y : (List FieldTree × Bool) × List Placed) → fields_at plain ts ≡ Some y → FieldList Plain ts y.0 y.1
  unfolding fields_at
  fields_sound ts y e = fields_fuel (suc (length ts)) ts y e

  fields_complete : (ts rest : List Placed) (fs : List FieldTree × Bool) → FieldList Plain ts fs rest → fields_at plain ts ≡ Some (fs, rest)
  fields_complete _ _ _ (all_closed t rest e) = fields_unfold plain (read_shrinks _ _ fields) (t ∷ rest) ∙ rw e refl
  fields_complete _ _ _ (all_dotted dots t rest d e) = fields_unfold plain (read_shrinks _ _ fields) (dots ∷ t ∷ rest) ∙ rw (d, e) refl
  fields_complete _ _ _ (last_field ts rest f t item e) =
      let k = field_first ts (t ∷ rest) f item in
      fields_unfold plain (read_shrinks _ _ fields) ts ∙ rw (k.0, k.1, field_complete ts (t ∷ rest) f item, e) refl
  fields_complete _ _ _ (next_field ts us rest f fs dotted t item e others) =
      let k = field_first ts (t ∷ us) f item in
      fields_unfold plain (read_shrinks _ _ fields) ts ∙ rw (k.0, k.1, field_complete ts (t ∷ us) f item, e, fields_complete us rest (fs, dotted) others) refl

  fields_shrink : (ts rest : List Placed) (fs : List FieldTree × Bool) → FieldList Plain ts fs rest → length rest < length ts
  fields_shrink _ _ _ (all_closed t rest e) = omega arith
  fields_shrink _ _ _ (all_dotted dots t rest d e) = omega arith
  fields_shrink _ _ _ (last_field ts rest f t item e) = omega (arith, field_shrinks ts (t ∷ rest) f item)
  fields_shrink _ _ _ (next_field ts us rest f fs dotted t item e others) = omega (arith, field_shrinks ts (t ∷ us) f item, fields_shrink us rest (fs, dotted) others)

  -- ---- what is no range

  form_shrinks : (ts rest : List Placed) (x : Shape) → PlainForm Plain ts x rest → length rest < length ts
  form_shrinks _ _ _ (bound_as ts us rest at b p s e f) = omega (arith, binding_shrinks ts (at ∷ us) b s, alt_shrinks us rest p f)
  form_shrinks _ _ _ (bound ts rest b s e n) = binding_shrinks ts rest b s
  form_shrinks _ _ _ (path ts rest xs s a b c) = paths.shrinks ts rest xs s
  form_shrinks _ _ _ (tuple_form ts us rest xs opening ps s e list) = omega (arith, paths.shrinks ts (opening ∷ us) xs s, (all_items false).shrinks us rest ps list)
  form_shrinks _ _ _ (brace_form ts us rest xs opening fs dotted s e list) = omega (arith, paths.shrinks ts (opening ∷ us) xs s, fields_shrink us rest (fs, dotted) list)
  form_shrinks _ _ _ (group opening closing ts rest p e s f) = omega (arith, whole_shrinks ts (closing ∷ rest) p s)
  form_shrinks _ _ _ (tuple opening comma ts us rest first others e s f list) = omega (arith, item_shrinks ts (comma ∷ us) first s, (all_items false).shrinks us rest others list)
  form_shrinks _ _ _ (slice opening ts rest ps e list) = omega (arith, (all_items true).shrinks ts rest ps list)
  form_shrinks _ _ _ (point and ts us rest mutable inner e m s) = omega (arith, maybe_shrinks (is_word words.Mut) ts us mutable m, h.shrinks us rest inner s)
  form_shrinks _ _ _ _ = omega arith

  form_first : (ts rest : List Placed) (x : Shape) → PlainForm Plain ts x rest → Starts ts
  form_first _ _ _ (wild t rest e) = starts_of t rest (rw e refl) (rw e refl) (rw e refl)
  form_first _ _ _ (literal t rest x e) = let f = literal_facts t.lexeme x e in starts_of t rest (f.mark marks.CloseRound) (f.mark marks.CloseSquare) (f.mark marks.TwoDots)
  form_first _ _ _ (negative minus t rest x e f) = starts_of minus (t ∷ rest) (rw e refl) (rw e refl) (rw e refl)
  form_first _ _ _ (bound_as ts us rest at b p s e f) = binding_first ts (at ∷ us) b s
  form_first _ _ _ (bound ts rest b s e n) = binding_first ts rest b s
  form_first _ _ _ (path ts rest xs s a b c) = path_first ts rest xs s
  form_first _ _ _ (tuple_form ts us rest xs opening ps s e list) = path_first ts (opening ∷ us) xs s
  form_first _ _ _ (brace_form ts us rest xs opening fs dotted s e list) = path_first ts (opening ∷ us) xs s
  form_first _ _ _ (unit opening closing rest e f) = starts_of opening (closing ∷ rest) (rw e refl) (rw e refl) (rw e refl)
  form_first _ _ _ (only_rest opening dots closing rest e d f) = starts_of opening (dots ∷ closing ∷ rest) (rw e refl) (rw e refl) (rw e refl)
  form_first _ _ _ (group opening closing ts rest p e s f) = starts_of opening ts (rw e refl) (rw e refl) (rw e refl)
  form_first _ _ _ (tuple opening comma ts us rest first others e s f list) = starts_of opening ts (rw e refl) (rw e refl) (rw e refl)
  form_first _ _ _ (slice opening ts rest ps e list) = starts_of opening ts (rw e refl) (rw e refl) (rw e refl)
  form_first _ _ _ (point and ts us rest mutable inner e m s) = starts_of and ts (rw e refl) (rw e refl) (rw e refl)

  -- a path is no other form
  record IsPathFirst (ts : List Placed) : Type 0 where
    wild : behind (is_mark marks.Underscore) ts ≡ None
    round : behind (is_mark marks.OpenRound) ts ≡ None
    square : behind (is_mark marks.OpenSquare) ts ≡ None
    and : behind (is_mark marks.Ampersand) ts ≡ None
    minus : behind (is_mark marks.Minus) ts ≡ None
    literal : token_at literal_of ts ≡ None

  path_only : (ts rest : List Placed) (xs : List Segment) → SpellsPath ts xs rest → IsPathFirst ts
  path_only ts rest xs s =
      let k = path_heads ts rest xs s in
      let f = segment_facts k.first.lexeme k.part k.is in
      record {
        wild = rw (k.whole, f.mark marks.Underscore) refl;
        round = rw (k.whole, f.mark marks.OpenRound) refl;
        square = rw (k.whole, f.mark marks.OpenSquare) refl;
        and = rw (k.whole, f.mark marks.Ampersand) refl;
        minus = rw (k.whole, f.mark marks.Minus) refl;
        literal = rw (k.whole, f.literal) refl;
      }

  tuple_complete : (opening comma : Placed) (ts us rest : List Placed) (first : PatternTree) (others : List PatternTree) → IsMark marks.OpenRound opening → ItemForm Plain ts first (comma ∷ us) → IsMark marks.Comma comma
      → CommaList marks.CloseRound (ItemForm Plain) us others rest → round_pattern plain ts ≡ Some (Tuple (more first (patterns_from others)), rest)
  tuple_complete opening comma _ us rest _ others e (a_rest dots _ d n) f list =
      let shut : behind (is_mark marks.CloseRound) (dots ∷ comma ∷ us) ≡ None = rw d refl in
      rw (shut, rest_it dots (comma ∷ us) d n, f, (all_items false).complete us rest others list) refl
  tuple_complete opening comma _ us rest _ others e (a_pattern ts _ p s) f list =
      let k = whole_first ts (comma ∷ us) p s in
      rw (k.0, k.2, whole_complete ts (comma ∷ us) p s, f, (all_items false).complete us rest others list) refl

  path_complete : (ts rest : List Placed) (xs : List Segment) → SpellsPath ts xs rest → path_tree_at ts ≡ Some (path_of xs, rest)
  unfolding path_tree_at
  path_complete ts rest xs s = rw (paths.complete ts rest xs s) refl

  form_complete : (ts rest : List Placed) (x : Shape) → PlainForm Plain ts x rest → plain_form plain ts ≡ Some (x, rest)
  unfolding path_pattern_at
  form_complete _ _ _ (wild t rest e) = let u = mark_unbound marks.Underscore t rest e in rw (u.0, u.1, e) refl
  form_complete _ _ _ (literal t rest x e) =
      let f = literal_facts t.lexeme x e in
      let u = unbound t rest f.by_ref f.mutable f.name in
      rw (u.0, u.1, f.mark marks.Underscore, f.mark marks.OpenRound, f.mark marks.OpenSquare, f.mark marks.Ampersand, f.mark marks.Minus, f.read) refl
  form_complete _ _ _ (negative minus t rest x e f) = let u = mark_unbound marks.Minus minus (t ∷ rest) e in rw (u.0, u.1, e, negated_from t.lexeme x f) refl
  form_complete _ _ _ (bound_as ts us rest at b p s e f) = rw (bound_it ts us at b s e, alt_complete us rest p f) refl
  form_complete _ _ _ (bound ts rest b s e n) = let k = marked_it ts rest b s e n in rw (k.0, k.1) refl
  form_complete _ _ _ (path ts rest xs s a b c) =
      let u = path_unbound ts rest xs s c in
      let k = path_only ts rest xs s in
      rw (u.0, u.1, k.wild, k.round, k.square, k.and, k.minus, k.literal, path_complete ts rest xs s, none_behind (is_mark marks.OpenRound) rest a, none_behind (is_mark marks.OpenCurly) rest b, none_behind (is_mark marks.At) rest c) refl
  form_complete _ _ _ (tuple_form ts us rest xs opening ps s e list) =
      let u = path_unbound ts (opening ∷ us) xs s (rw e refl) in
      let k = path_only ts (opening ∷ us) xs s in
      rw (u.0, u.1, k.wild, k.round, k.square, k.and, k.minus, k.literal, path_complete ts (opening ∷ us) xs s, e, (all_items false).complete us rest ps list) refl
  form_complete _ _ _ (brace_form ts us rest xs opening fs dotted s e list) =
      let u = path_unbound ts (opening ∷ us) xs s (rw e refl) in
      let k = path_only ts (opening ∷ us) xs s in
      rw (u.0, u.1, k.wild, k.round, k.square, k.and, k.minus, k.literal, path_complete ts (opening ∷ us) xs s, e, fields_complete us rest (fs, dotted) list) refl
  form_complete _ _ _ (unit opening closing rest e f) = let u = mark_unbound marks.OpenRound opening (closing ∷ rest) e in rw (u.0, u.1, e, f) refl
  form_complete _ _ _ (only_rest opening dots end rest e d f) =
      let u = mark_unbound marks.OpenRound opening (dots ∷ end ∷ rest) e in
      let shut : behind (is_mark marks.CloseRound) (dots ∷ end ∷ rest) ≡ None = rw d refl in
      rw (u.0, u.1, e, shut, rest_it dots (end ∷ rest) d (rw f refl), f) refl
  form_complete _ _ _ (group opening closing ts rest p e s f) =
      let u = mark_unbound marks.OpenRound opening ts e in
      let k = whole_first ts (closing ∷ rest) p s in
      rw (u.0, u.1, e, k.0, k.2, whole_complete ts (closing ∷ rest) p s, f) refl
  form_complete _ _ _ (tuple opening comma ts us rest first others e s f list) =
      let u = mark_unbound marks.OpenRound opening ts e in
      let k = tuple_complete opening comma ts us rest first others e s f list in
      rw (u.0, u.1, e) k
  form_complete _ _ _ (slice opening ts rest ps e list) =
      let u = mark_unbound marks.OpenSquare opening ts e in
      rw (u.0, u.1, e, (all_items true).complete ts rest ps list) refl
  form_complete _ _ _ (point and ts us rest mutable inner e m s) =
      let u = mark_unbound marks.Ampersand and ts e in
      rw (u.0, u.1, e, flag_complete (is_word words.Mut) ts us mutable m, h.complete us rest inner s) refl

  -- the other items of a tuple
  tuple_sound : (opening : Placed) (ts us : List Placed) (first : PatternTree) (y : Shape × List Placed) → IsMark marks.OpenRound opening → ItemForm Plain ts first us
      → tuple_behind plain first us ≡ Some y → PlainForm Plain (opening ∷ ts) y.0 y.1
  tuple_sound opening ts us first y e item r =
      let q = bind_some (behind (is_mark marks.Comma) us) _ y r in
      let b = behind_some marks.Comma us q.0 q.1 in
      let l = bind_some (items_at false plain q.0) _ y q.2 in
      given (PlainForm Plain) (opening ∷ ts) _ y l.2 (tuple opening b.first ts q.0 l.0.1 first l.0.0 e (rw b.whole at item) b.is ((all_items false).sound q.0 l.0 l.1))

  only_sound : (opening : Placed) (ts : List Placed) (r : PatternTree × List Placed) (rest : List Placed) → IsMark marks.OpenRound opening → HeadsRest ts r → behind (is_mark marks.CloseRound) r.1 ≡ Some rest
      → PlainForm Plain (opening ∷ ts) (Tuple (more r.0 none)) rest
  only_sound opening ts r rest e d b =
      let f = behind_some marks.CloseRound r.1 rest b in
      rw (d.whole, d.tree, f.whole) (only_rest opening d.dots f.first rest e d.is f.is)

  round_sound : (opening : Placed) (ts : List Placed) (y : Shape × List Placed) → IsMark marks.OpenRound opening → round_pattern plain ts ≡ Some y → PlainForm Plain (opening ∷ ts) y.0 y.1
  round_sound opening ts y e r =
      elim (either_some (behind (is_mark marks.CloseRound) ts) _ _ y r) [
        | inl a ↦ (let b = behind_some marks.CloseRound ts a.0 a.1 in given (PlainForm Plain) (opening ∷ ts) _ y a.2 (rw b.whole (unit opening b.first a.0 e b.is)))
        | inr o ↦ elim (either_some (rest_at ts) _ _ y o.1) [
          | inl a ↦ (
              let d = rest_some ts a.0 a.1 in
              elim (either_some (behind (is_mark marks.CloseRound) a.0.1) _ _ y a.2) [
                | inl c ↦ given (PlainForm Plain) (opening ∷ ts) _ y c.2 (only_sound opening ts a.0 c.0 e d c.1)
                | inr p ↦ tuple_sound opening ts a.0.1 a.0.0 y e (rest_item ts a.0 d) p.1
              ])
          | inr q ↦ (
              let x = bind_some (whole_at plain ts) _ y q.1 in
              let s = whole_sound ts x.0 x.1 in
              elim (either_some (behind (is_mark marks.CloseRound) x.0.1) _ _ y x.2) [
                | inl c ↦ (let b = behind_some marks.CloseRound x.0.1 c.0 c.1 in given (PlainForm Plain) (opening ∷ ts) _ y c.2 (group opening b.first ts c.0 x.0.0 e (rw b.whole at s) b.is))
                | inr p ↦ tuple_sound opening ts x.0.1 x.0.0 y e (a_pattern ts x.0.1 x.0.0 s) p.1
              ])
        ]
      ]

  -- behind a path
  path_sound : (ts : List Placed) (y : Shape × List Placed) → path_pattern_at plain ts ≡ Some y → PlainForm Plain ts y.0 y.1
  unfolding path_pattern_at path_tree_at
  path_sound ts y r =
      let x = bind_some (path_tree_at ts) _ y r in
      let z = bind_some (segments_at ts) _ x.0 x.1 in
      let s = paths.sound ts z.0 z.1 in
      let same = some_is _ _ z.2 in
      behind_path ts z.0.0 z.0.1 y s (rw (← same) at x.2)
    where
      behind_path : (ts : List Placed) (xs : List Segment) (us : List Placed) (y : Shape × List Placed) → SpellsPath ts xs us
          → either (behind (is_mark marks.OpenRound) us) (λ vs. items_at false plain vs >>= λ ps. Some (TupleForm (path_of xs) (patterns_from ps.0), ps.1))
          (either (behind (is_mark marks.OpenCurly) us) (λ vs. fields_at plain vs >>= λ fs. Some (Brace (path_of xs) (fields_from fs.0.0) fs.0.1, fs.1)) (either (behind (is_mark marks.At) us) (λ vs. None) (Some (path_shape (path_of xs), us)))) ≡ Some y → PlainForm Plain ts y.0 y.1
      behind_path ts xs us y s r =
          elim (either_some (behind (is_mark marks.OpenRound) us) _ _ y r) [
            | inl a ↦ (
                let b = behind_some marks.OpenRound us a.0 a.1 in
                let l = bind_some (items_at false plain a.0) _ y a.2 in
                given (PlainForm Plain) ts _ y l.2 (tuple_form ts a.0 l.0.1 xs b.first l.0.0 (rw b.whole at s) b.is ((all_items false).sound a.0 l.0 l.1)))
            | inr o ↦ elim (either_some (behind (is_mark marks.OpenCurly) us) _ _ y o.1) [
              | inl a ↦ (
                  let b = behind_some marks.OpenCurly us a.0 a.1 in
                  let l = bind_some (fields_at plain a.0) _ y a.2 in
                  given (PlainForm Plain) ts _ y l.2 (brace_form ts a.0 l.0.1 xs b.first l.0.0.0 l.0.0.1 (rw b.whole at s) b.is (fields_sound a.0 l.0 l.1)))
              | inr p ↦ elim (either_some (behind (is_mark marks.At) us) _ _ y p.1) [
                | inl a ↦ (let no = a.2 in absurd cc)
                | inr q ↦ given (PlainForm Plain) ts _ y q.1 (path ts us xs s (next_is_not (is_mark marks.OpenRound) us o.0) (next_is_not (is_mark marks.OpenCurly) us p.0) (next_is_not (is_mark marks.At) us q.0))
              ]
            ]
          ]

  unbound_sound : (ts : List Placed) (y : Shape × List Placed) → unbound_at plain ts ≡ Some y → PlainForm Plain ts y.0 y.1
  unbound_sound ts y r =
      elim (either_some (behind (is_mark marks.Underscore) ts) _ _ y r) [
        | inl a ↦ (let b = behind_some marks.Underscore ts a.0 a.1 in given (PlainForm Plain) ts _ y a.2 (rw b.whole (wild b.first a.0 b.is)))
        | inr o ↦ elim (either_some (behind (is_mark marks.OpenRound) ts) _ _ y o.1) [
          | inl a ↦ (let b = behind_some marks.OpenRound ts a.0 a.1 in rw b.whole (round_sound b.first a.0 y b.is a.2))
          | inr p ↦ elim (either_some (behind (is_mark marks.OpenSquare) ts) _ _ y p.1) [
            | inl a ↦ (
                let b = behind_some marks.OpenSquare ts a.0 a.1 in
                let l = bind_some (items_at true plain a.0) _ y a.2 in
                given (PlainForm Plain) ts _ y l.2 (rw b.whole (slice b.first a.0 l.0.1 l.0.0 b.is ((all_items true).sound a.0 l.0 l.1))))
            | inr q ↦ elim (either_some (behind (is_mark marks.Ampersand) ts) _ _ y q.1) [
              | inl a ↦ (
                  let b = behind_some marks.Ampersand ts a.0 a.1 in
                  let m = flag_at (is_word words.Mut) a.0 in
                  let x = bind_some (plain m.1) _ y a.2 in
                  given (PlainForm Plain) ts _ y x.2 (rw b.whole (point b.first a.0 m.1 x.0.1 m.0 x.0.0 b.is (flag_sound (is_word words.Mut) a.0) (h.sound m.1 x.0 x.1))))
              | inr s ↦ elim (either_some (behind (is_mark marks.Minus) ts) _ _ y s.1) [
                | inl a ↦ (
                    let b = behind_some marks.Minus ts a.0 a.1 in
                    let x = bind_some (token_at negated_of a.0) _ y a.2 in
                    let n = token_some negated_of a.0 x.0 x.1 in
                    let whole : ts ≡ b.first ∷ n.first ∷ x.0.1 = b.whole ∙ ap (λ us. b.first ∷ us) n.whole in
                    given (PlainForm Plain) ts _ y x.2 (rw whole (negative b.first n.first x.0.1 x.0.0 b.is (negated_to n.first.lexeme x.0.0 n.is))))
                | inr t ↦ elim (either_some (token_at literal_of ts) _ _ y t.1) [
                  | inl a ↦ (let n = token_some literal_of ts a.0 a.1 in given (PlainForm Plain) ts _ y a.2 (rw n.whole (literal n.first a.0.1 a.0.0 (literal_to n.first.lexeme a.0.0 n.is))))
                  | inr u ↦ path_sound ts y u.1
                ]
              ]
            ]
          ]
        ]
      ]

  form_sound : (ts : List Placed) (y : Shape × List Placed) → plain_form plain ts ≡ Some y → PlainForm Plain ts y.0 y.1
  form_sound ts y r =
      elim (either_some (bound_at ts) _ _ y r) [
        | inl a ↦ (
            let b = bound_some ts a.0 a.1 in
            let x = bind_some (alt_at plain a.0.1) _ y a.2 in
            given (PlainForm Plain) ts _ y x.2 (bound_as ts a.0.1 x.0.1 b.at a.0.0 x.0.0 b.spelled b.is (alt_sound a.0.1 x.0 x.1)))
        | inr o ↦ elim (either_some (marked_at ts) _ _ y o.1) [
          | inl a ↦ (let k = marked_some ts a.0 a.1 o.0 in given (PlainForm Plain) ts _ y a.2 (bound ts a.0.1 a.0.0 k.0 k.1 k.2))
          | inr p ↦ unbound_sound ts y p.1
        ]
      ]

  pub forms : Joined (PlainForm Plain) (plain_form plain)
  forms = record { sound = form_sound; complete = form_complete; shrinks = form_shrinks }

-- what is known at one number of forms around each other
pub record Known (n : ℕ) : Type 0 where
  pub joined : Joined (SpellsPlain n) (plain_at n)
  pub starts : (ts rest : List Placed) (x : Shape) → SpellsPlain n ts x rest → Starts ts

-- at each number
pub known_plain : (n : ℕ) → Known n
unfolding plain_at SpellsPlain
known_plain zero = record {
  joined = record { sound = λ ts y e. absurd cc; complete = λ ts rest x f. absurd f; shrinks = λ ts rest x f. absurd f };
  starts = λ ts rest x f. absurd f;
}
known_plain (suc n) = let k = known_plain n in record {
  joined = forms (SpellsPlain n) (plain_at n) k.joined k.starts;
  starts = form_first (SpellsPlain n) (plain_at n) k.joined k.starts;
}

pub alts_shrink : (n : ℕ) → Shrinks (alt_at (plain_at n))
alts_shrink n = read_shrinks _ _ (alts (SpellsPlain n) (plain_at n) (known_plain n).joined (known_plain n).starts)

pub elements_shrink : (square : Bool) (n : ℕ) → Shrinks (element_at square (plain_at n))
elements_shrink square n = read_shrinks _ _ (elements (SpellsPlain n) (plain_at n) (known_plain n).joined (known_plain n).starts square)

pub plain_step : (n : ℕ) (ts : List Placed) → 0 < n → bound_at ts ≡ None → marked_at ts ≡ None → plain_at n ts ≡ unbound_at (plain_at (n - 1)) ts
unfolding plain_at
plain_step zero ts lt b m = absurd (omega arith)
plain_step (suc n) ts lt b m = let k : suc n - 1 ≡ n = omega arith in rw (k, b, m) refl

pattern_sound : (ts : List Placed) (y : PatternTree × List Placed) → pattern_at ts ≡ Some y → SpellsPattern ts y.0 y.1
unfolding pattern_at SpellsPattern
pattern_sound ts y e =
    let x = bind_some (whole_at (plain_at 64) ts) _ y e in
    by_case (fits x.0.0 64) refl x.0 ((wholes (SpellsPlain 64) (plain_at 64) (known_plain 64).joined (known_plain 64).starts).sound ts x.0 x.1) refl x.2
  where
    by_case : (f : Bool) {g : Bool} → g ≡ f → (p : PatternTree × List Placed) → PatternForm (SpellsPlain 64) ts p.0 p.1 → fits p.0 64 ≡ g → cond f (Some p) None ≡ Some y → PatternForm (SpellsPlain 64) ts y.0 y.1 × (fits y.0 64 ≡ true)
    by_case true k p s r e = subst (λ (z : PatternTree × List Placed). PatternForm (SpellsPlain 64) ts z.0 z.1 × (fits z.0 64 ≡ true)) (some_is _ _ e) (s, r ∙ k)
    by_case false k p s r e = absurd cc

pattern_complete : (ts rest : List Placed) (p : PatternTree) → SpellsPattern ts p rest → pattern_at ts ≡ Some (p, rest)
unfolding pattern_at SpellsPattern
pattern_complete ts rest p s = rw ((wholes (SpellsPlain 64) (plain_at 64) (known_plain 64).joined (known_plain 64).starts).complete ts rest p s.0, s.1) refl

pattern_shrinks : (ts rest : List Placed) (p : PatternTree) → SpellsPattern ts p rest → length rest < length ts
unfolding SpellsPattern
pattern_shrinks ts rest p s = (wholes (SpellsPlain 64) (plain_at 64) (known_plain 64).joined (known_plain 64).starts).shrinks ts rest p s.0

pub patterns : Joined SpellsPattern pattern_at
patterns = record { sound = pattern_sound; complete = pattern_complete; shrinks = pattern_shrinks }

pub fields_shrink_at : (n : ℕ) → Shrinks (field_at (plain_at n))
fields_shrink_at n = read_shrinks _ _ (fields (SpellsPlain n) (plain_at n) (known_plain n).joined (known_plain n).starts)
