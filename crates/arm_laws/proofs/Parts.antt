-- What the tokens of lists, of tuples and of forms spell.
use Rattle.std.proofs.Common.{◌≡◌, ℕ, suc, Bool, true, false, List, [], ◌∷◌, ◌++◌, codes}
use Rattle.std.proofs.Common.{refl, ap, subst, ◌∙◌}
use Rattle.decl_lexer.specs.declared.marks.Mark.{Mark}
use Rattle.decl_lexer.specs.declared.marks.Mark.TheVariants as marks
use Rattle.decl_lexer.specs.Lexing.{Placed}
use Rattle.decl_syntax.specs.Units.{from_of}
use Rattle.decl_syntax.specs.Patterns.{PatternTree, Shape, PatternTrees, none, more, patterns_from, no_field}
use Rattle.decl_syntax.specs.Patterns.{and_field}
use Rattle.decl_syntax.specs.Patterns.{FieldTree, fields_from}
use Rattle.decl_syntax.specs.Patterns as patterns
use Rattle.decl_syntax.specs.Grammar.{Spelling, CommaList, closed, last, next}
use Rattle.decl_syntax.specs.EndGrammar.{path_of as segments_path}
use Rattle.decl_syntax.specs.EndGrammar.{SpellsPath}
use Rattle.decl_syntax.specs.PatternGrammar.{ItemForm, a_rest, a_pattern, SpellsBoundRest, SliceItemForm, an_item}
use Rattle.decl_syntax.specs.PatternGrammar.{FieldForm, FieldList, all_closed, last_field, next_field, tuple_form}
use Rattle.decl_syntax.specs.PatternGrammar.{brace_form, unit, tuple, slice, SpellsPlain}
use Rattle.value_syntax.proofs.Lexed.{Lexable, Then, Is, Both, apart, open_round}
use Rattle.value_syntax.proofs.Lexed.{close_round}
use Rattle.value_syntax.proofs.LexedNames.{Stops, at_comma, at_round, at_square, at_space}
use Rattle.value_syntax.proofs.LexedNames.{and_left, and_right}
use Rattle.witness_text.specs.Texts.{braced, rest_texts}
use Rattle.witness_text.specs.Trees.{NameTree, PlainName, VariantName}
use Rattle.witness_text.specs.Trees.{WitnessTree}
use Rattle.witness_text.specs.Trees.{WitnessTrees, no_trees}
use Rattle.witness_text.specs.Trees.{more_trees, FieldTrees, no_fields, more_fields}
use Rattle.arm_maker.specs.Sizes.{arm_fits, parts_fit}
use Rattle.arm_laws.specs.Patterns.{path_of, and_more, unplaced, rest_shapes, arm_shape, arm_shapes, arm_fields}
use Rattle.arm_laws.specs.Patterns.{without_places, all_without, fields_without}
use Rattle.arm_laws.specs.Spellable.{IsSpellable, AreSpellable, is_referred, are_referred}
use Rattle.arm_laws.proofs.ArmChars.{tree_chars, trees_chars, all_field_chars}
use Rattle.arm_laws.proofs.Armed.{Calm, Armed, whole}
use Rattle.arm_laws.proofs.Forms.{segments_of, PathThen, FieldThen}
use Rattle.arm_laws.proofs.Fresh.{mark_no_rest, fresh_inert, inert_round, inert_square}
use Rattle.arm_laws.proofs.Pieces.{mark_step, Closes, by_comma, by_round, by_square}

-- a witness within so many levels, whose text is a pattern
pub record IsReady (n : ℕ) (w : WitnessTree) : Type 0 where
  pub spellable : IsSpellable w
  pub fits : arm_fits n w ≡ true
  pub referred : is_referred w ≡ true

-- what is shown of a witness within so many levels
abbrev pub Back : ℕ → WitnessTree → Type 1
Back n w = (behind : List ℕ) (Q : List Placed → Type 0) → IsReady n w → Stops behind
    → ((us : List Placed) → Q us → Calm us) → Lexable behind Q → Both (tree_chars w ++ behind) (Armed n (arm_shape w) Q)

-- ---- the parts of lists

-- `..`, or a witness
pub data Part : Type 0 where
  Dots : Part
  Given : WitnessTree → Part

abbrev pub part_chars : Part → List ℕ
part_chars Dots = codes ".."
part_chars (Given w) = tree_chars w

abbrev pub part_tree : Part → PatternTree
part_tree Dots = unplaced patterns.Rest
part_tree (Given w) = unplaced (arm_shape w)

abbrev pub IsPartReady : ℕ → Part → Type 0
IsPartReady n Dots = Unit {0}
IsPartReady n (Given w) = IsReady n w

abbrev pub AreReady : ℕ → List Part → Type 0
AreReady n [] = Unit {0}
AreReady n (p ∷ ps) = IsPartReady n p × AreReady n ps

abbrev pub parts_chars : List Part → List (List ℕ)
parts_chars [] = []
parts_chars (p ∷ ps) = part_chars p ∷ parts_chars ps

abbrev pub parts_trees : List Part → PatternTrees
parts_trees [] = none
parts_trees (p ∷ ps) = more (part_tree p) (parts_trees ps)

abbrev pub parts_of : WitnessTrees → List Part
parts_of no_trees = []
parts_of (more_trees w ws) = Given w ∷ parts_of ws

abbrev pub dots_of : (longer : Bool) → List Part
dots_of true = Dots ∷ []
dots_of false = []

pub chars_of : (ws : WitnessTrees) → parts_chars (parts_of ws) ≡ trees_chars ws
chars_of no_trees = refl
chars_of (more_trees w ws) = ap (λ css. tree_chars w ∷ css) (chars_of ws)

pub trees_of : (ws : WitnessTrees) → parts_trees (parts_of ws) ≡ arm_shapes ws
trees_of no_trees = refl
trees_of (more_trees w ws) = ap (more (unplaced (arm_shape w))) (trees_of ws)

chars_behind : (ps qs : List Part) → parts_chars (ps ++ qs) ≡ parts_chars ps ++ parts_chars qs
chars_behind [] qs = refl
chars_behind (p ∷ ps) qs = ap (λ css. part_chars p ∷ css) (chars_behind ps qs)

trees_behind : (ps qs : List Part) → parts_trees (ps ++ qs) ≡ and_more (parts_trees ps) (parts_trees qs)
trees_behind [] qs = refl
trees_behind (p ∷ ps) qs = ap (more (part_tree p)) (trees_behind ps qs)

pub ready_behind : (n : ℕ) (ps qs : List Part) → AreReady n ps → AreReady n qs → AreReady n (ps ++ qs)
ready_behind n [] qs r s = s
ready_behind n (p ∷ ps) qs r s = (r.0, ready_behind n ps qs r.1 s)

dots_chars : (longer : Bool) → parts_chars (dots_of longer) ≡ rest_texts longer
dots_chars true = refl
dots_chars false = refl

dots_trees : (longer : Bool) → parts_trees (dots_of longer) ≡ rest_shapes longer
dots_trees true = refl
dots_trees false = refl

pub dots_ready : (n : ℕ) (longer : Bool) → AreReady n (dots_of longer)
dots_ready n true = (tt, tt)
dots_ready n false = tt

-- the parts of a row
abbrev pub row_parts : WitnessTrees → Bool → WitnessTrees → List Part
row_parts front longer back = parts_of front ++ (dots_of longer ++ parts_of back)

pub row_chars : (front : WitnessTrees) (longer : Bool) (back : WitnessTrees)
    → parts_chars (row_parts front longer back) ≡ trees_chars front ++ (rest_texts longer ++ trees_chars back)
row_chars front longer back =
    chars_behind (parts_of front) (dots_of longer ++ parts_of back)
    ∙ rw (chars_behind (dots_of longer) (parts_of back), chars_of front, dots_chars longer, chars_of back) refl

pub row_trees : (front : WitnessTrees) (longer : Bool) (back : WitnessTrees)
    → parts_trees (row_parts front longer back) ≡ and_more (arm_shapes front)
    (and_more (rest_shapes longer) (arm_shapes back))
row_trees front longer back =
    trees_behind (parts_of front) (dots_of longer ++ parts_of back)
    ∙ rw (trees_behind (dots_of longer) (parts_of back), trees_of front, dots_trees longer, trees_of back) refl

-- ---- what is ready

pub parts_ready : (n : ℕ) (ws : WitnessTrees) → AreSpellable ws → parts_fit n ws ≡ true → are_referred ws ≡ true
    → AreReady n (parts_of ws)
parts_ready n no_trees s f r = tt
parts_ready n (more_trees w ws) s f r = (
  record {
    spellable = s.0;
    fits = and_left (arm_fits n w) (parts_fit n ws) f;
    referred = and_left (is_referred w) (are_referred ws) r;
  },
  parts_ready n ws s.1 (and_right (arm_fits n w) (parts_fit n ws) f) (and_right (is_referred w) (are_referred ws) r),
)

-- ---- an item of a list

-- an item, and then these
pub record ItemThen (n : ℕ) (part : Part) (Q : List Placed → Type 0) (us : List Placed) : Type 0 where
  pub tree : PatternTree
  pub rest : List Placed
  pub item : ItemForm (SpellsPlain n) us tree rest
  pub no_rest : (q : PatternTree) (vs : List Placed) → SpellsBoundRest us q vs → ⊥
  pub same : without_places tree ≡ part_tree part
  pub holds : Q rest

pub given_then : (n : ℕ) (w : WitnessTree) (Q : List Placed → Type 0) → ((us : List Placed) → Q us → Calm us)
    → (us : List Placed) → Armed n (arm_shape w) Q us → ItemThen n (Given w) Q us
given_then n w Q q us s =
    let p = patterns.At (from_of us) s.form in record {
      tree = p;
      rest = s.rest;
      item = a_pattern us s.rest p (whole n us s.rest s.form s.spelled s.fresh (q s.rest s.holds).bar);
      no_rest = s.fresh.no_rest;
      same = ap unplaced s.same;
      holds = s.holds;
    }

pub dots_then : (n : ℕ) (Q : List Placed → Type 0) → ((us : List Placed) → Q us → Calm us) → (us : List Placed)
    → Then (Is marks.TwoDots) Q us → ItemThen n Dots Q us
dots_then n Q q us t = record {
  tree = patterns.At t.first.from patterns.Rest;
  rest = t.rest;
  item = rw t.whole (a_rest t.first t.rest t.is (q t.rest t.holds).end);
  no_rest = rw t.whole (λ p vs s. mark_no_rest marks.TwoDots t.first t.rest vs p t.is s);
  same = refl;
  holds = t.holds;
}

-- the items of this kind up to the mark that closes them, and then these
pub record Listed (Item : Spelling PatternTree) (close : Mark) (parts : List Part) (Q : List Placed → Type 0)
    (us : List Placed) : Type 0 where
  pub items : List PatternTree
  pub rest : List Placed
  pub list : CommaList close Item us items rest
  pub same : all_without (patterns_from items) ≡ parts_trees parts
  pub holds : Q rest

-- what is an item is one of this kind
abbrev pub Makes : ℕ → Spelling PatternTree → Type 0
Makes n Item = (us rest : List Placed) (p : PatternTree) → ItemForm (SpellsPlain n) us p rest
    → ((q : PatternTree) (vs : List Placed) → SpellsBoundRest us q vs → ⊥) → Item us p rest

pub make_plain : (n : ℕ) → Makes n (ItemForm (SpellsPlain n))
make_plain n us rest p i f = i

pub make_slice : (n : ℕ) → Makes n (SliceItemForm (SpellsPlain n))
make_slice n us rest p i f = an_item us rest p f i

pub closed_then : (Item : Spelling PatternTree) (close : Mark) (Q : List Placed → Type 0) (us : List Placed)
    → Then (Is close) Q us → Listed Item close [] Q us
closed_then Item close Q us t =
    record { items = []; rest = t.rest; list = rw t.whole (closed t.first t.rest t.is); same = refl; holds = t.holds }

pub last_then : (n : ℕ) (Item : Spelling PatternTree) → Makes n Item → (close : Mark) (part : Part)
    (Q : List Placed → Type 0) (us : List Placed) → ItemThen n part (Then (Is close) Q) us
    → Listed Item close (part ∷ []) Q us
last_then n Item make close part Q us s =
    let t = s.holds in
    let item = make us s.rest s.tree s.item s.no_rest in record {
      items = s.tree ∷ [];
      rest = t.rest;
      list = last us t.rest s.tree t.first (subst (λ vs. Item us s.tree vs) t.whole item) t.is;
      same = ap (λ p. more p none) s.same;
      holds = t.holds;
    }

pub next_then : (n : ℕ) (Item : Spelling PatternTree) → Makes n Item → (close : Mark) (part : Part) (parts : List Part)
    (Q : List Placed → Type 0) (us : List Placed)
    → ItemThen n part (Then (Is marks.Comma) (Listed Item close parts Q)) us
    → Listed Item close (part ∷ parts) Q us
next_then n Item make close part parts Q us s =
    let t = s.holds in
    let l = t.holds in
    let item = make us s.rest s.tree s.item s.no_rest in record {
      items = s.tree ∷ l.items;
      rest = l.rest;
      list = next us t.rest l.rest s.tree l.items t.first (subst (λ vs. Item us s.tree vs) t.whole item) t.is l.list;
      same = ap (λ p. more p (all_without (patterns_from l.items))) s.same ∙ ap (more (part_tree part)) l.same;
      holds = l.holds;
    }

pub closes_stop : (behind : List ℕ) → Closes behind → Stops behind
closes_stop _ (by_comma cs) = at_comma cs
closes_stop _ (by_round cs) = at_round cs
closes_stop _ (by_square cs) = at_square cs

pub round_step : (R : List Placed → Type 0) (cs : List ℕ) → Lexable cs R
    → Lexable (40 ∷ cs) (Then (Is marks.OpenRound) R)
round_step R cs h = mark_step marks.OpenRound 40 R cs (open_round cs) refl h

pub closed_round : (Q : List Placed → Type 0) (behind : List ℕ) → Lexable behind Q
    → Lexable (41 ∷ behind) (Then (Is marks.CloseRound) Q)
closed_round Q behind h = mark_step marks.CloseRound 41 Q behind (close_round behind) refl h

pub round_apart : (R : List Placed → Type 0) (cs : List ℕ) → Lexable (40 ∷ cs) R → Both (40 ∷ cs) R
round_apart R cs h = apart R 40 cs (record { no_and = refl; no_equal = refl; no_space = refl; no_mark = refl }) h

-- ---- tuples

pub unit_then : (n : ℕ) (Q : List Placed → Type 0) (us : List Placed)
    → Then (Is marks.OpenRound) (Then (Is marks.CloseRound) Q) us → Armed (suc n) (patterns.Tuple none) Q us
unfolding SpellsPlain
unit_then n Q us t =
    let u = t.holds in
    let w : us ≡ t.first ∷ u.first ∷ u.rest = t.whole ∙ ap (λ vs. t.first ∷ vs) u.whole in record {
      form = patterns.Tuple none;
      rest = u.rest;
      spelled = rw w (unit t.first u.first u.rest t.is u.is);
      same = refl;
      fresh = rw w (fresh_inert t.first (u.first ∷ u.rest) (rw t.is inert_round));
      holds = u.holds;
    }

pub tuple_then : (n : ℕ) (part : Part) (parts : List Part) (Q : List Placed → Type 0) (us : List Placed)
    → Then (Is marks.OpenRound) (ItemThen n part
    (Then (Is marks.Comma) (Listed (ItemForm (SpellsPlain n)) marks.CloseRound parts Q))) us
    → Armed (suc n) (patterns.Tuple (parts_trees (part ∷ parts))) Q us
unfolding SpellsPlain
tuple_then n part parts Q us t =
    let s = t.holds in
    let c = s.holds in
    let l = c.holds in
    let first = subst (λ vs. ItemForm (SpellsPlain n) t.rest s.tree vs) c.whole s.item in record {
      form = patterns.Tuple (more s.tree (patterns_from l.items));
      rest = l.rest;
      spelled = rw t.whole (tuple t.first c.first t.rest c.rest l.rest s.tree l.items t.is first c.is l.list);
      same = ap (λ p. patterns.Tuple (more p (all_without (patterns_from l.items)))) s.same
          ∙ ap (λ ps. patterns.Tuple (more (part_tree part) ps)) l.same;
      fresh = rw t.whole (fresh_inert t.first t.rest (rw t.is inert_round));
      holds = l.holds;
    }

-- ---- rows

pub row_then : (n : ℕ) (parts : List Part) (Q : List Placed → Type 0) (us : List Placed)
    → Then (Is marks.OpenSquare) (Listed (SliceItemForm (SpellsPlain n)) marks.CloseSquare parts Q) us
    → Armed (suc n) (patterns.Slice (parts_trees parts)) Q us
unfolding SpellsPlain
row_then n parts Q us t =
    let l = t.holds in record {
      form = patterns.Slice (patterns_from l.items);
      rest = l.rest;
      spelled = rw t.whole (slice t.first t.rest l.rest l.items t.is l.list);
      same = ap patterns.Slice l.same;
      fresh = rw t.whole (fresh_inert t.first t.rest (rw t.is inert_square));
      holds = l.holds;
    }

-- ---- forms with parts

same_path : (name : NameTree) → segments_path (segments_of name) ≡ path_of name
same_path (PlainName name) = refl
same_path (VariantName owner name) = refl

pub tuple_form_then : (n : ℕ) (name : NameTree) (parts : List Part) (Q : List Placed → Type 0) (us : List Placed)
    → PathThen name (Then (Is marks.OpenRound) (Listed (ItemForm (SpellsPlain n)) marks.CloseRound parts Q)) us
    → Armed (suc n) (patterns.TupleForm (path_of name) (parts_trees parts)) Q us
unfolding SpellsPlain
tuple_form_then n name parts Q us s =
    let t = s.holds in
    let l = t.holds in
    let path = subst (λ vs. SpellsPath us (segments_of name) vs) t.whole s.spelled in
    let spelled = tuple_form us t.rest l.rest (segments_of name) t.first l.items path t.is l.list in record {
      form = patterns.TupleForm (path_of name) (patterns_from l.items);
      rest = l.rest;
      spelled = subst (λ p. SpellsPlain (suc n) us (patterns.TupleForm p (patterns_from l.items)) l.rest)
          (same_path name) spelled;
      same = ap (patterns.TupleForm (path_of name)) l.same;
      fresh = s.fresh;
      holds = l.holds;
    }

same_inner : (n : ℕ) (name : List ℕ) (shape : Shape) (Q : List Placed → Type 0) (us : List Placed)
    (s : FieldThen n name shape Q us) → without_places s.inner ≡ unplaced shape
same_inner n name shape Q us s = ap without_places s.is ∙ ap unplaced s.same

-- the fields up to the bracket that closes them, and then these
pub record ListedFields (n : ℕ) (fields : FieldTrees) (Q : List Placed → Type 0) (us : List Placed) : Type 0 where
  pub items : List FieldTree
  pub rest : List Placed
  pub list : FieldList (SpellsPlain n) us (items, false) rest
  pub same : fields_without (fields_from items) ≡ arm_fields fields
  pub holds : Q rest

pub brace_form_then : (n : ℕ) (name : NameTree) (fs : FieldTrees) (Q : List Placed → Type 0) (us : List Placed)
    → PathThen name (Then (Is marks.OpenCurly) (ListedFields n fs Q)) us
    → Armed (suc n) (patterns.Brace (path_of name) (arm_fields fs) false) Q us
unfolding SpellsPlain
brace_form_then n name fs Q us s =
    let t = s.holds in
    let l = t.holds in
    let path = subst (λ vs. SpellsPath us (segments_of name) vs) t.whole s.spelled in
    let spelled = brace_form us t.rest l.rest (segments_of name) t.first l.items false path t.is l.list in record {
      form = patterns.Brace (path_of name) (fields_from l.items) false;
      rest = l.rest;
      spelled = subst (λ p. SpellsPlain (suc n) us (patterns.Brace p (fields_from l.items) false) l.rest)
          (same_path name) spelled;
      same = ap (λ xs. patterns.Brace (path_of name) xs false) l.same;
      fresh = s.fresh;
      holds = l.holds;
    }

-- ---- fields

pub no_field_then : (n : ℕ) (Q : List Placed → Type 0) (us : List Placed) → Then (Is marks.CloseCurly) Q us
    → ListedFields n no_fields Q us
no_field_then n Q us t =
    record {
      items = [];
      rest = t.rest;
      list = rw t.whole (all_closed t.first t.rest t.is);
      same = refl;
      holds = t.holds;
    }

-- a field by its name and pattern
abbrev field_tree : List ℕ → PatternTree → FieldTree
field_tree name p = record { name = name; short = false; attrs = []; pattern = p }

pub last_field_then : (n : ℕ) (name : List ℕ) (w : WitnessTree) (Q : List Placed → Type 0) (us : List Placed)
    → FieldThen n name (arm_shape w) (Then (Is marks.CloseCurly) Q) us
    → ListedFields n (more_fields name w no_fields) Q us
last_field_then n name w Q us s =
    let t = s.holds in
    let f = field_tree name s.inner in record {
      items = f ∷ [];
      rest = t.rest;
      list = last_field us t.rest f t.first (subst (λ vs. FieldForm (SpellsPlain n) us f vs) t.whole s.spelled) t.is;
      same = ap (λ p. and_field name false [] p no_field) (same_inner n name (arm_shape w) _ us s);
      holds = t.holds;
    }

pub next_field_then : (n : ℕ) (name : List ℕ) (w : WitnessTree) (fs : FieldTrees) (Q : List Placed → Type 0)
    (us : List Placed) → FieldThen n name (arm_shape w) (Then (Is marks.Comma) (ListedFields n fs Q)) us
    → ListedFields n (more_fields name w fs) Q us
next_field_then n name w fs Q us s =
    let t = s.holds in
    let l = t.holds in
    let f = field_tree name s.inner in record {
      items = f ∷ l.items;
      rest = l.rest;
      list = next_field us t.rest l.rest f l.items false t.first
          (subst (λ vs. FieldForm (SpellsPlain n) us f vs) t.whole s.spelled) t.is l.list;
      same = ap (λ p. and_field name false [] p (fields_without (fields_from l.items)))
          (same_inner n name (arm_shape w) _ us s)
          ∙ ap (and_field name false [] (unplaced (arm_shape w))) l.same;
      holds = l.holds;
    }

pub braces_begin : (fs : FieldTrees) (behind : List ℕ) → Stops (braced (all_field_chars fs) ++ behind)
braces_begin no_fields behind = at_space _
braces_begin (more_fields name w fs) behind = at_space _
