-- The texts of arms lex, and their tokens spell the patterns of the arms.
use Rattle.std.proofs.Common.{◌≡◌, ℕ, zero, suc, ◌+◌, Bool, true, false, not, ◌&&◌, ◌||◌, List, [], ◌∷◌, ◌++◌}
use Rattle.std.proofs.Common.{refl, sym, ap, subst, ◌∙◌, append_assoc}
use Rattle.std.specs.Prelude.{nat_le, is_some}
use Rattle.decl_lexer.specs.declared.marks.Mark.{Mark}
use Rattle.decl_lexer.specs.declared.marks.Mark.TheVariants as marks
use Rattle.decl_lexer.specs.Gaps.{is_space}
use Rattle.decl_lexer.specs.Text.{skip_while}
use Rattle.decl_lexer.specs.Lexing.{Placed}
use Rattle.decl_syntax.specs.Patterns.{PatternTree}
use Rattle.decl_syntax.specs.Patterns as patterns
use Rattle.decl_syntax.specs.Grammar.{Spelling}
use Rattle.decl_syntax.specs.PatternGrammar.{ItemForm, SliceItemForm, SpellsPlain}
use Rattle.decl_syntax.specs.Widths.{most_parts}
use Rattle.value_syntax.specs.Canonical.{IsName, IsFormName}
use Rattle.value_syntax.proofs.Characters.{form_chars}
use Rattle.value_syntax.proofs.Lexed.{Lexable, Then, Is, weaker, space_step, Both, apart, both_weaker, open_square}
use Rattle.value_syntax.proofs.Lexed.{close_square, open_curly, close_curly, comma, colon}
use Rattle.value_syntax.proofs.LexedNames.{Stops, at_comma, at_space, at_colon, at_opening, name_chars, and_left}
use Rattle.value_syntax.proofs.LexedNames.{and_right}
use Rattle.witness_text.specs.Texts.{joined, tuple_text, bracketed, braced, row_text, text_of}
use Rattle.witness_text.specs.Trees.{NameTree, WitnessTree, Anything, Undeclared, OfFlag, OfInts, OfChars, OfText}
use Rattle.witness_text.specs.Trees.{OfOthers}
use Rattle.witness_text.specs.Trees.{OfTuple, OfUnitForm, OfTupleForm, OfBraceForm, OfPoint, OfRow, WitnessTrees}
use Rattle.witness_text.specs.Trees.{FieldTrees, no_fields, more_fields}
use Rattle.arm_maker.specs.Sizes.{tree_count, field_count, rest_count, rest_fits, arm_fits, parts_fit}
use Rattle.arm_maker.specs.Sizes.{fields_fit}
use Rattle.arm_laws.specs.Patterns.{path_of, arm_shape, arm_shapes, arm_fields}
use Rattle.arm_laws.specs.Spellable.{AreSpellableFields, is_referred, are_referred}
use Rattle.arm_laws.specs.Spellable.{fields_referred}
use Rattle.arm_laws.proofs.ArmChars.{tree_chars, trees_chars, all_field_chars, text_scalars}
use Rattle.arm_laws.proofs.Armed.{Calm, IsCalm, calm_comma, calm_round, calm_square, calm_curly, calm_mark, Armed}
use Rattle.arm_laws.proofs.Forms.{end_mark, form_step, unit_back, FieldThen, field_then}
use Rattle.arm_laws.proofs.Measures.{no_levels}
use Rattle.arm_laws.proofs.Leaves.{wild_back, flag_back, point_back, ints_back, chars_back}
use Rattle.arm_laws.proofs.Parts.{IsReady, Back, Part, Dots, Given, part_chars, IsPartReady, AreReady, parts_chars}
use Rattle.arm_laws.proofs.Parts.{parts_trees, parts_of, dots_of, row_parts, dots_ready, ready_behind, row_chars}
use Rattle.arm_laws.proofs.Parts.{row_trees}
use Rattle.arm_laws.proofs.Parts.{chars_of, trees_of, parts_ready, ItemThen, given_then, dots_then, Listed, Makes}
use Rattle.arm_laws.proofs.Parts.{make_plain, make_slice, closed_then, last_then, next_then, closes_stop, round_step}
use Rattle.arm_laws.proofs.Parts.{closed_round, round_apart, unit_then, tuple_then, row_then, tuple_form_then}
use Rattle.arm_laws.proofs.Parts.{ListedFields}
use Rattle.arm_laws.proofs.Parts.{no_field_then, last_field_then, next_field_then, brace_form_then, braces_begin}
use Rattle.arm_laws.proofs.Pieces.{mark_step, Closes, by_comma, by_round, by_square, dots_step, Spaced, comma_step}
use Rattle.arm_laws.proofs.Pieces.{name_step}

module _ (n : ℕ) (inner : (w : WitnessTree) → Back n w) where
  part_step : (part : Part) (behind : List ℕ) (Q : List Placed → Type 0) → IsPartReady n part → Closes behind
      → ((us : List Placed) → Q us → Calm us) → Lexable behind Q
      → Spaced (part_chars part ++ behind) (ItemThen n part Q)
  part_step Dots behind Q r k q h =
      record { lexed = weaker _ _ _ (λ us t. dots_then n Q q us t) (dots_step Q behind k h); no_space = refl }
  part_step (Given w) behind Q r k q h =
      let b = inner w behind Q r (closes_stop behind k) q h in
      record { lexed = weaker _ _ _ (λ us s. given_then n w Q q us s) b.alone; no_space = b.no_space }

  -- the items of a list, and the mark that closes them
  items_back : (Item : Spelling PatternTree) → Makes n Item → (close : Mark) → IsCalm close → (parts : List Part)
      (behind : List ℕ) (Q : List Placed → Type 0) → AreReady n parts → Closes behind
      → skip_while is_space behind ≡ behind → Lexable behind (Then (Is close) Q)
      → Spaced (joined (parts_chars parts) ++ behind) (Listed Item close parts Q)
  items_back Item make close c [] behind Q r k s h =
      record { lexed = weaker behind _ _ (λ us t. closed_then Item close Q us t) h; no_space = s }
  items_back Item make close c (p ∷ []) behind Q r k s h =
      let b = part_step p behind (Then (Is close) Q) r.0 k (calm_mark close Q c) h in
      record { lexed = weaker _ _ _ (λ us x. last_then n Item make close p Q us x) b.lexed; no_space = b.no_space }
  items_back Item make close c (p ∷ q ∷ ps) behind Q r k s h =
      let others = items_back Item make close c (q ∷ ps) behind Q r.1 k s h in
      let rest = joined (parts_chars (q ∷ ps)) in
      let marked = comma_step _ (rest ++ behind) others in
      let b = part_step p (44 ∷ 32 ∷ (rest ++ behind)) _ r.0 (by_comma _) (calm_mark marks.Comma _ calm_comma) marked in
      let same : (part_chars p ++ (44 ∷ 32 ∷ rest)) ++ behind ≡ part_chars p ++ (44 ∷ 32 ∷ (rest ++ behind)) =
      append_assoc (part_chars p) (44 ∷ 32 ∷ rest) behind in
      subst (λ cs. Spaced cs (Listed Item close (p ∷ q ∷ ps) Q)) (sym same) (record {
        lexed = weaker _ _ _ (λ us x. next_then n Item make close p (q ∷ ps) Q us x) b.lexed;
        no_space = b.no_space;
      })

  -- ---- tuples

  tuple_parts : (parts : List Part) (behind : List ℕ) (Q : List Placed → Type 0) → AreReady n parts → Lexable behind Q
      → Both (tuple_text (parts_chars parts) ++ behind) (Armed (suc n) (patterns.Tuple (parts_trees parts)) Q)
  tuple_parts [] behind Q r h = round_apart _ (41 ∷ behind)
      (weaker _ _ _ (λ us t. unit_then n Q us t) (round_step _ (41 ∷ behind) (closed_round Q behind h)))
  tuple_parts (p ∷ []) behind Q r h =
      let l = items_back (ItemForm (SpellsPlain n)) (make_plain n) marks.CloseRound calm_round [] (41 ∷ behind) Q tt
      (by_round behind) refl (closed_round Q behind h) in
      let marked = mark_step marks.Comma 44 _ (41 ∷ behind) (comma (41 ∷ behind)) refl l.lexed in
      let b = part_step p (44 ∷ 41 ∷ behind) _ r.0 (by_comma _) (calm_mark marks.Comma _ calm_comma) marked in
      let same : (part_chars p ++ (44 ∷ 41 ∷ [])) ++ behind ≡ part_chars p ++ (44 ∷ 41 ∷ behind) =
      append_assoc (part_chars p) (44 ∷ 41 ∷ []) behind in
      subst (λ cs. Both (40 ∷ cs) (Armed (suc n) (patterns.Tuple (parts_trees (p ∷ []))) Q)) (sym same)
      (round_apart _ _ (weaker _ _ _ (λ us t. tuple_then n p [] Q us t) (round_step _ _ b.lexed)))
  tuple_parts (p ∷ q ∷ ps) behind Q r h =
      let rest = joined (parts_chars (q ∷ ps)) in
      let l = items_back (ItemForm (SpellsPlain n)) (make_plain n) marks.CloseRound calm_round (q ∷ ps) (41 ∷ behind) Q
      r.1 (by_round behind) refl (closed_round Q behind h) in
      let marked = comma_step _ (rest ++ (41 ∷ behind)) l in
      let b = part_step p (44 ∷ 32 ∷ (rest ++ (41 ∷ behind))) _ r.0 (by_comma _) (calm_mark marks.Comma _ calm_comma)
      marked in
      let same : ((part_chars p ++ (44 ∷ 32 ∷ rest)) ++ (41 ∷ [])) ++ behind ≡ part_chars p ++
      (44 ∷ 32 ∷ (rest ++ (41 ∷ behind))) =
      append_assoc (part_chars p ++ (44 ∷ 32 ∷ rest)) (41 ∷ []) behind
      ∙ append_assoc (part_chars p) (44 ∷ 32 ∷ rest) (41 ∷ behind) in
      subst (λ cs. Both (40 ∷ cs) (Armed (suc n) (patterns.Tuple (parts_trees (p ∷ q ∷ ps))) Q)) (sym same)
      (round_apart _ _ (weaker _ _ _ (λ us t. tuple_then n p (q ∷ ps) Q us t) (round_step _ _ b.lexed)))

  tuple_back : (ws : WitnessTrees) (behind : List ℕ) (Q : List Placed → Type 0) → AreReady n (parts_of ws)
      → Lexable behind Q
      → Both (tuple_text (trees_chars ws) ++ behind) (Armed (suc n) (patterns.Tuple (arm_shapes ws)) Q)
  tuple_back ws behind Q r h =
      subst (λ css. Both (tuple_text css ++ behind) (Armed (suc n) (patterns.Tuple (arm_shapes ws)) Q)) (chars_of ws)
      (subst (λ ps. Both (tuple_text (parts_chars (parts_of ws)) ++ behind) (Armed (suc n) (patterns.Tuple ps) Q))
      (trees_of ws) (tuple_parts (parts_of ws) behind Q r h))

  -- ---- rows

  row_items : (parts : List Part) (behind : List ℕ) (Q : List Placed → Type 0) → AreReady n parts → Lexable behind Q
      → Both ((91 ∷ (joined (parts_chars parts) ++ (93 ∷ []))) ++ behind)
      (Armed (suc n) (patterns.Slice (parts_trees parts)) Q)
  row_items parts behind Q r h =
      let rest = joined (parts_chars parts) in
      let closing = mark_step marks.CloseSquare 93 Q behind (close_square behind) refl h in
      let l = items_back (SliceItemForm (SpellsPlain n)) (make_slice n) marks.CloseSquare calm_square parts
      (93 ∷ behind) Q r (by_square behind) refl closing in
      let lexed = mark_step marks.OpenSquare 91 _ (rest ++ (93 ∷ behind)) (open_square _) refl l.lexed in
      subst (λ cs. Both (91 ∷ cs) (Armed (suc n) (patterns.Slice (parts_trees parts)) Q))
      (sym (append_assoc rest (93 ∷ []) behind))
      (apart _ 91 _ (record { no_and = refl; no_equal = refl; no_space = refl; no_mark = refl })
      (weaker _ _ _ (λ us t. row_then n parts Q us t) lexed))

  row_back : (front : WitnessTrees) (longer : Bool) (back : WitnessTrees) (behind : List ℕ) (Q : List Placed → Type 0)
      → AreReady n (row_parts front longer back) → Lexable behind Q
      → Both (row_text (trees_chars front) longer (trees_chars back) ++ behind)
      (Armed (suc n) (arm_shape (OfRow front longer back)) Q)
  row_back front longer back behind Q r h =
      let shape = arm_shape (OfRow front longer back) in
      subst (λ css. Both ((91 ∷ (joined css ++ (93 ∷ []))) ++ behind) (Armed (suc n) shape Q))
      (row_chars front longer back)
      (subst (λ ps. Both ((91 ∷ (joined (parts_chars (row_parts front longer back)) ++ (93 ∷ []))) ++ behind)
      (Armed (suc n) (patterns.Slice ps) Q)) (row_trees front longer back)
      (row_items (row_parts front longer back) behind Q r h))

  -- ---- forms

  tuple_form_parts : (name : NameTree) (parts : List Part) (behind : List ℕ) (Q : List Placed → Type 0)
      → IsFormName name → AreReady n parts → Lexable behind Q
      → Both ((form_chars name ++ bracketed (parts_chars parts)) ++ behind)
      (Armed (suc n) (patterns.TupleForm (path_of name) (parts_trees parts)) Q)
  tuple_form_parts name parts behind Q i r h =
      let rest = joined (parts_chars parts) in
      let l = items_back (ItemForm (SpellsPlain n)) (make_plain n) marks.CloseRound calm_round parts (41 ∷ behind) Q r
      (by_round behind) refl (closed_round Q behind h) in
      let lexed = round_step _ (rest ++ (41 ∷ behind)) l.lexed in
      let b = form_step name (40 ∷ (rest ++ (41 ∷ behind))) _ i (at_opening _)
      (end_mark marks.OpenRound _ refl refl refl) lexed in
      let same : (form_chars name ++ (40 ∷ (rest ++ (41 ∷ [])))) ++ behind ≡ form_chars name ++
      (40 ∷ (rest ++ (41 ∷ behind))) =
      append_assoc (form_chars name) (40 ∷ (rest ++ (41 ∷ []))) behind
      ∙ ap (λ cs. form_chars name ++ (40 ∷ cs)) (append_assoc rest (41 ∷ []) behind) in
      subst (λ cs. Both cs (Armed (suc n) (patterns.TupleForm (path_of name) (parts_trees parts)) Q)) (sym same)
      (both_weaker _ _ _ (λ us s. tuple_form_then n name parts Q us s) b)

  tuple_form_back : (name : NameTree) (ws : WitnessTrees) (behind : List ℕ) (Q : List Placed → Type 0)
      → IsFormName name → AreReady n (parts_of ws) → Lexable behind Q
      → Both ((form_chars name ++ bracketed (trees_chars ws)) ++ behind)
      (Armed (suc n) (patterns.TupleForm (path_of name) (arm_shapes ws)) Q)
  tuple_form_back name ws behind Q i r h =
      let shape = patterns.TupleForm (path_of name) (arm_shapes ws) in
      subst (λ css. Both ((form_chars name ++ bracketed css) ++ behind) (Armed (suc n) shape Q)) (chars_of ws)
      (subst (λ ps. Both ((form_chars name ++ bracketed (parts_chars (parts_of ws))) ++ behind)
      (Armed (suc n) (patterns.TupleForm (path_of name) ps) Q)) (trees_of ws)
      (tuple_form_parts name (parts_of ws) behind Q i r h))

  -- ---- fields

  -- a field and what follows it
  field_step : (name : List ℕ) (w : WitnessTree) (behind : List ℕ) (Q : List Placed → Type 0) → IsName name
      → IsReady n w → Stops behind → ((us : List Placed) → Q us → Calm us) → Lexable behind Q
      → Both (name_chars name ++ (58 ∷ 32 ∷ (tree_chars w ++ behind))) (FieldThen n name (arm_shape w) Q)
  field_step name w behind Q i r k q h =
      let b = inner w behind Q r k q h in
      let spaced = space_step (Armed n (arm_shape w) Q) (tree_chars w ++ behind) b.no_space b.alone in
      let marked = mark_step marks.Colon 58 _ (32 ∷ (tree_chars w ++ behind)) (colon _) refl spaced in
      both_weaker _ _ _ (λ us t. field_then n name (arm_shape w) Q q us t)
      (name_step name (58 ∷ 32 ∷ (tree_chars w ++ behind)) _ i (at_colon _) marked)

  field_ready : (name : List ℕ) (w : WitnessTree) (fs : FieldTrees) → AreSpellableFields (more_fields name w fs)
      → fields_fit n (more_fields name w fs) ≡ true → fields_referred (more_fields name w fs) ≡ true → IsReady n w
  field_ready name w fs s f r = record {
    spellable = s.1;
    fits = and_left (arm_fits n w) (fields_fit n fs) f;
    referred = and_left (is_referred w) (fields_referred fs) r;
  }

  -- the fields, and the bracket that closes them behind a space
  fields_back : (name : List ℕ) (w : WitnessTree) (fs : FieldTrees) (behind : List ℕ) (Q : List Placed → Type 0)
      → AreSpellableFields (more_fields name w fs) → fields_fit n (more_fields name w fs) ≡ true
      → fields_referred (more_fields name w fs) ≡ true → Lexable (32 ∷ behind) (Then (Is marks.CloseCurly) Q)
      → Spaced (joined (all_field_chars (more_fields name w fs)) ++ (32 ∷ behind))
      (ListedFields n (more_fields name w fs) Q)
  fields_back name w no_fields behind Q s f r h =
      let b = field_step name w (32 ∷ behind) _ s.0 (field_ready name w no_fields s f r) (at_space behind)
      (calm_mark marks.CloseCurly Q calm_curly) h in
      let same : (name_chars name ++ (58 ∷ 32 ∷ tree_chars w)) ++ (32 ∷ behind) ≡ name_chars name ++
      (58 ∷ 32 ∷ (tree_chars w ++ (32 ∷ behind))) =
      append_assoc (name_chars name) (58 ∷ 32 ∷ tree_chars w) (32 ∷ behind) in
      subst (λ cs. Spaced cs (ListedFields n (more_fields name w no_fields) Q)) (sym same)
      (record {
        lexed = weaker _ _ _ (λ us x. last_field_then n name w Q us x) b.alone;
        no_space = b.no_space;
      })
  fields_back name w (more_fields other v fs) behind Q s f r h =
      let others = fields_back other v fs behind Q s.2
      (and_right (arm_fits n w) (fields_fit n (more_fields other v fs)) f)
      (and_right (is_referred w) (fields_referred (more_fields other v fs)) r) h in
      let rest = joined (all_field_chars (more_fields other v fs)) in
      let marked = comma_step _ (rest ++ (32 ∷ behind)) others in
      let b = field_step name w (44 ∷ 32 ∷ (rest ++ (32 ∷ behind))) _ s.0
      (field_ready name w (more_fields other v fs) s f r) (at_comma _) (calm_mark marks.Comma _ calm_comma) marked in
      let field = name_chars name ++ (58 ∷ 32 ∷ tree_chars w) in
      let same : (field ++ (44 ∷ 32 ∷ rest)) ++ (32 ∷ behind) ≡ name_chars name ++
      (58 ∷ 32 ∷ (tree_chars w ++ (44 ∷ 32 ∷ (rest ++ (32 ∷ behind))))) =
      append_assoc field (44 ∷ 32 ∷ rest) (32 ∷ behind)
      ∙ append_assoc (name_chars name) (58 ∷ 32 ∷ tree_chars w) (44 ∷ 32 ∷ (rest ++ (32 ∷ behind))) in
      subst (λ cs. Spaced cs (ListedFields n (more_fields name w (more_fields other v fs)) Q)) (sym same)
      (record {
        lexed = weaker _ _ _ (λ us x. next_field_then n name w (more_fields other v fs) Q us x) b.alone;
        no_space = b.no_space;
      })

  -- fields in their brackets, behind a space
  braced_back : (fs : FieldTrees) (behind : List ℕ) (Q : List Placed → Type 0) → AreSpellableFields fs
      → fields_fit n fs ≡ true → fields_referred fs ≡ true → Lexable behind Q
      → Lexable (braced (all_field_chars fs) ++ behind) (Then (Is marks.OpenCurly) (ListedFields n fs Q))
  braced_back no_fields behind Q s f r h =
      let closing = mark_step marks.CloseCurly 125 Q behind (close_curly behind) refl h in
      let l = weaker (125 ∷ behind) _ _ (λ us t. no_field_then n Q us t) closing in
      space_step (Then (Is marks.OpenCurly) (ListedFields n no_fields Q)) (123 ∷ 125 ∷ behind) refl
      (mark_step marks.OpenCurly 123 (ListedFields n no_fields Q) (125 ∷ behind) (open_curly _) refl l)
  braced_back (more_fields name w fs) behind Q s f r h =
      let fields = more_fields name w fs in
      let rest = joined (all_field_chars (more_fields name w fs)) in
      let closing = space_step (Then (Is marks.CloseCurly) Q) (125 ∷ behind) refl
      (mark_step marks.CloseCurly 125 Q behind (close_curly behind) refl h) in
      let l = fields_back name w fs (125 ∷ behind) Q s f r closing in
      let opened = mark_step marks.OpenCurly 123 (ListedFields n fields Q) (32 ∷ (rest ++ (32 ∷ 125 ∷ behind)))
      (open_curly _) refl (space_step (ListedFields n fields Q) (rest ++ (32 ∷ 125 ∷ behind)) l.no_space l.lexed) in
      let lexed = space_step (Then (Is marks.OpenCurly) (ListedFields n fields Q))
      (123 ∷ 32 ∷ (rest ++ (32 ∷ 125 ∷ behind))) refl opened in
      subst (λ cs. Lexable (32 ∷ 123 ∷ 32 ∷ cs) (Then (Is marks.OpenCurly) (ListedFields n fields Q)))
      (sym (append_assoc rest (32 ∷ 125 ∷ []) behind)) lexed

  brace_form_back : (name : NameTree) (fs : FieldTrees) (behind : List ℕ) (Q : List Placed → Type 0)
      → IsFormName name → AreSpellableFields fs → fields_fit n fs ≡ true → fields_referred fs ≡ true → Lexable behind Q
      → Both ((form_chars name ++ braced (all_field_chars fs)) ++ behind)
      (Armed (suc n) (patterns.Brace (path_of name) (arm_fields fs) false) Q)
  brace_form_back name fs behind Q i s f r h =
      let b = form_step name (braced (all_field_chars fs) ++ behind) _ i (braces_begin fs behind)
      (end_mark marks.OpenCurly _ refl refl refl) (braced_back fs behind Q s f r h) in
      subst (λ cs. Both cs (Armed (suc n) (patterns.Brace (path_of name) (arm_fields fs) false) Q))
      (sym (append_assoc (form_chars name) (braced (all_field_chars fs)) behind))
      (both_weaker _ _ _ (λ us s. brace_form_then n name fs Q us s) b)

  -- ---- each form

  -- what a reference points to is ready, where it is no text
  pointed : (mutable : Bool) (w : WitnessTree) → IsReady (suc n) (OfPoint mutable w)
      → (not mutable && is_some (text_of w)) ≡ false → IsReady n w
  pointed mutable w r e =
      let fits : ((not mutable && is_some (text_of w)) || arm_fits n w) ≡ true = r.fits in
      let referred : ((not mutable && is_some (text_of w)) || is_referred w) ≡ true = r.referred in
      record { spellable = r.spellable; fits = rw e at fits; referred = rw e at referred }

  row_ready : (front : WitnessTrees) (longer : Bool) (back : WitnessTrees)
      → IsReady (suc n) (OfRow front longer back) → AreReady n (row_parts front longer back)
  row_ready front longer back r =
      let s = r.spellable in
      let f = and_right (nat_le (tree_count front + (rest_count longer + tree_count back)) most_parts)
      (rest_fits n longer && (parts_fit n front && parts_fit n back)) r.fits in
      let g = and_right (rest_fits n longer) (parts_fit n front && parts_fit n back) f in
      let first = parts_ready n front s.0 (and_left (parts_fit n front) (parts_fit n back) g)
      (and_left (are_referred front) (are_referred back) r.referred) in
      let last = parts_ready n back s.1 (and_right (parts_fit n front) (parts_fit n back) g)
      (and_right (are_referred front) (are_referred back) r.referred) in
      ready_behind n (parts_of front) (dots_of longer ++ parts_of back) first
      (ready_behind n (dots_of longer) (parts_of back) (dots_ready n longer) last)

  form_back : (w : WitnessTree) → Back (suc n) w
  form_back Anything behind Q r k q h = wild_back n behind Q k h
  form_back Undeclared behind Q r k q h = wild_back n behind Q k h
  form_back (OfFlag b) behind Q r k q h = flag_back n b behind Q k h
  form_back (OfInts kind range) behind Q r k q h =
      ints_back n kind range behind Q r.spellable.0 r.spellable.1 r.fits k q h
  form_back (OfChars low high) behind Q r k q h =
      chars_back n low high behind Q r.spellable.0 r.spellable.1 r.fits q h
  form_back (OfText t) behind Q r k q h = let e : false ≡ true = r.referred in absurd cc
  form_back (OfOthers ts) behind Q r k q h = wild_back n behind Q k h
  form_back (OfTuple ws) behind Q r k q h =
      tuple_back ws behind Q (parts_ready n ws r.spellable
      (and_right (nat_le (tree_count ws) most_parts) (parts_fit n ws) r.fits) r.referred) h
  form_back (OfUnitForm name) behind Q r k q h = unit_back n name behind Q r.spellable k q h
  form_back (OfTupleForm name ws) behind Q r k q h =
      tuple_form_back name ws behind Q r.spellable.0 (parts_ready n ws r.spellable.1
      (and_right (nat_le (tree_count ws) most_parts) (parts_fit n ws) r.fits) r.referred) h
  form_back (OfBraceForm name fs) behind Q r k q h =
      brace_form_back name fs behind Q r.spellable.0 r.spellable.1
      (and_right (nat_le (field_count fs) most_parts) (fields_fit n fs) r.fits) r.referred h
  form_back (OfPoint mutable w) behind Q r k q h =
      point_back n mutable (text_of w) (tree_chars w) (arm_shape w) behind Q (text_scalars w r.spellable)
      (λ e. inner w behind Q (pointed mutable w r e) k q h) h
  form_back (OfRow front longer back) behind Q r k q h =
      row_back front longer back behind Q (row_ready front longer back r) h

-- at each number of levels
pub back : (n : ℕ) (w : WitnessTree) → Back n w
back zero w = λ behind Q r k q h. let e = r.fits in let f = no_levels w in absurd cc
back (suc n) w = form_back n (back n) w
