-- The names of forms in the texts of arms, and the fields behind them.
use Rattle.std.proofs.Common.{◌≡◌, ℕ, suc, true, false, List, [], ◌∷◌, ◌++◌, None, refl, sym, ap}
use Rattle.std.proofs.Common.{subst, ◌∙◌, append_assoc}
use Rattle.decl_lexer.specs.declared.marks.Mark.{Mark}
use Rattle.decl_lexer.specs.declared.marks.Mark.TheVariants as marks
use Rattle.decl_lexer.specs.Begins.{Marked}
use Rattle.decl_lexer.specs.Lexing.{Placed}
use Rattle.decl_syntax.specs.Units.{is_mark, token_at, from_of}
use Rattle.decl_syntax.specs.Patterns.{PatternTree, Shape}
use Rattle.decl_syntax.specs.Patterns as patterns
use Rattle.decl_syntax.specs.Grammar.{NextIsNot, only, further, no_more}
use Rattle.decl_syntax.specs.FieldNames.{label}
use Rattle.decl_syntax.specs.EndGrammar.{Segment, a_name, one_token, SpellsPath}
use Rattle.decl_syntax.specs.EndReading.{range_mark_of}
use Rattle.decl_syntax.specs.PatternGrammar.{FieldForm, labelled, path, SpellsPlain}
use Rattle.value_syntax.specs.Canonical.{IsFormName}
use Rattle.value_syntax.proofs.Characters.{form_chars}
use Rattle.value_syntax.proofs.Lexed.{Lexable, Then, Is, token_step, Both, both_weaker, separator}
use Rattle.value_syntax.proofs.LexedNames.{Stops, at_colon, name_chars}
use Rattle.witness_text.specs.Trees.{NameTree, PlainName, VariantName}
use Rattle.arm_laws.specs.Patterns.{unit_shape, shape_without}
use Rattle.arm_laws.proofs.Fresh.{Fresh, fresh_path}
use Rattle.arm_laws.proofs.Armed.{Calm, Armed, whole}
use Rattle.arm_laws.proofs.Pieces.{IsNamed, name_step}

-- the parts of a name's path
abbrev pub named : List ℕ → Segment
named name = record { text = name; is_name = true }

abbrev pub segments_of : NameTree → List Segment
segments_of (PlainName name) = named name ∷ []
segments_of (VariantName owner name) = named owner ∷ named name ∷ []

-- the path of a form, and then these
pub record PathThen (name : NameTree) (Q : List Placed → Type 0) (us : List Placed) : Type 0 where
  pub rest : List Placed
  pub spelled : SpellsPath us (segments_of name) rest
  pub fresh : Fresh us
  pub holds : Q rest

-- what goes on with no path, no binding and no range
pub record IsPathEnd (us : List Placed) : Type 0 where
  pub path : NextIsNot (is_mark marks.PathSeparator) us
  pub at : NextIsNot (is_mark marks.At) us
  pub range : token_at range_mark_of us ≡ None

pub end_calm : (us : List Placed) → Calm us → IsPathEnd us
end_calm us c = record { path = c.path; at = c.at; range = c.range }

pub end_mark : (mark : Mark) (Q : List Placed → Type 0) → is_mark marks.PathSeparator (Marked mark) ≡ false
    → is_mark marks.At (Marked mark) ≡ false → range_mark_of (Marked mark) ≡ None → (us : List Placed)
    → Then (Is mark) Q us → IsPathEnd us
end_mark mark Q e f g us t = record {
  path = rw (t.whole, t.is) e;
  at = rw (t.whole, t.is) f;
  range = rw (t.whole, t.is, g) refl;
}

plain_then : (name : List ℕ) (Q : List Placed → Type 0) (us : List Placed) → ((vs : List Placed) → Q vs → IsPathEnd vs)
    → Then (IsNamed name) Q us → PathThen (PlainName name) Q us
plain_then name Q us q t =
    let e = q t.rest t.holds in
    let spelled : SpellsPath (t.first ∷ t.rest) (named name ∷ []) t.rest =
    only (t.first ∷ t.rest) t.rest (named name)
    (one_token t.first t.rest (named name) (rw t.is.1 (a_name name t.is.0))) e.path in
    record {
      rest = t.rest;
      spelled = rw t.whole spelled;
      fresh = rw t.whole (fresh_path t.first t.rest t.rest (named name ∷ []) name t.is.0 t.is.1 spelled e.at e.range);
      holds = t.holds;
    }

variant_then : (owner name : List ℕ) (Q : List Placed → Type 0) (us : List Placed)
    → ((vs : List Placed) → Q vs → IsPathEnd vs)
    → Then (IsNamed owner) (Then (Is marks.PathSeparator) (Then (IsNamed name) Q)) us
    → PathThen (VariantName owner name) Q us
variant_then owner name Q us q t =
    let s = t.holds in
    let u = s.holds in
    let e = q u.rest u.holds in
    let behind = s.first ∷ u.first ∷ u.rest in
    let whole : us ≡ t.first ∷ behind = t.whole ∙ ap (λ vs. t.first ∷ vs) (s.whole ∙ ap (λ vs. s.first ∷ vs) u.whole) in
    let last : SpellsPath (u.first ∷ u.rest) (named name ∷ []) u.rest =
    only (u.first ∷ u.rest) u.rest (named name)
    (one_token u.first u.rest (named name) (rw u.is.1 (a_name name u.is.0))) e.path in
    let spelled : SpellsPath (t.first ∷ behind) (named owner ∷ named name ∷ []) u.rest =
    further (t.first ∷ behind) (u.first ∷ u.rest) u.rest (named owner) (named name ∷ []) s.first
    (one_token t.first behind (named owner) (rw t.is.1 (a_name owner t.is.0))) s.is last in
    record {
      rest = u.rest;
      spelled = rw whole spelled;
      fresh = rw whole (fresh_path t.first behind u.rest (named owner ∷ named name ∷ []) owner t.is.0 t.is.1 spelled
          (rw s.is refl) e.range);
      holds = u.holds;
    }

separator_step : (Q : List Placed → Type 0) (cs : List ℕ) → Lexable cs Q
    → Lexable (58 ∷ 58 ∷ cs) (Then (Is marks.PathSeparator) Q)
separator_step Q cs h = token_step (Is marks.PathSeparator) Q (Marked marks.PathSeparator) 58 (58 ∷ []) cs refl
    (separator cs) refl h

-- the name of a form in front
pub form_step : (name : NameTree) (behind : List ℕ) (Q : List Placed → Type 0) → IsFormName name → Stops behind
    → ((vs : List Placed) → Q vs → IsPathEnd vs) → Lexable behind Q
    → Both (form_chars name ++ behind) (PathThen name Q)
form_step (PlainName name) behind Q n k q h =
    both_weaker _ _ _ (λ us t. plain_then name Q us q t) (name_step name behind Q n k h)
form_step (VariantName owner name) behind Q n k q h =
    let second = name_step name behind Q n.1 k h in
    let marked = separator_step _ (name_chars name ++ behind) second.alone in
    let first = name_step owner (58 ∷ 58 ∷ (name_chars name ++ behind)) _ n.0 (at_colon _) marked in
    let same : form_chars (VariantName owner name) ++ behind ≡ name_chars owner ++
    (58 ∷ 58 ∷ (name_chars name ++ behind)) = append_assoc (name_chars owner) (58 ∷ 58 ∷ name_chars name) behind in
    subst (λ cs. Both cs (PathThen (VariantName owner name) Q)) (sym same)
    (both_weaker _ _ _ (λ us t. variant_then owner name Q us q t) first)

-- ---- a form alone

unit_then : (n : ℕ) (name : NameTree) (Q : List Placed → Type 0) → ((us : List Placed) → Q us → Calm us)
    → (us : List Placed) → PathThen name Q us → Armed (suc n) (unit_shape name) Q us
unfolding SpellsPlain
unit_then n (PlainName name) Q q us s =
    let c = q s.rest s.holds in record {
      form = patterns.Name name;
      rest = s.rest;
      spelled = path us s.rest (named name ∷ []) s.spelled c.round c.curly c.at;
      same = refl;
      fresh = s.fresh;
      holds = s.holds;
    }
unit_then n (VariantName owner name) Q q us s =
    let c = q s.rest s.holds in record {
      form = unit_shape (VariantName owner name);
      rest = s.rest;
      spelled = path us s.rest (named owner ∷ named name ∷ []) s.spelled c.round c.curly c.at;
      same = refl;
      fresh = s.fresh;
      holds = s.holds;
    }

pub unit_back : (n : ℕ) (name : NameTree) (behind : List ℕ) (Q : List Placed → Type 0) → IsFormName name
    → Stops behind → ((us : List Placed) → Q us → Calm us) → Lexable behind Q
    → Both (form_chars name ++ behind) (Armed (suc n) (unit_shape name) Q)
unit_back n name behind Q i k q h = both_weaker _ _ _ (λ us s. unit_then n name Q q us s)
    (form_step name behind Q i k (λ vs x. end_calm vs (q vs x)) h)

-- ---- a field

-- a field of this name and shape, and then these
pub record FieldThen (n : ℕ) (name : List ℕ) (shape : Shape) (Q : List Placed → Type 0)
    (us : List Placed) : Type 0 where
  pub inner : PatternTree
  pub rest : List Placed
  pub spelled : FieldForm (SpellsPlain n) us (record { name = name; short = false; attrs = []; pattern = inner }) rest
  pub form : Shape
  pub from : ℕ
  pub is : inner ≡ patterns.At from form
  pub same : shape_without form ≡ shape
  pub holds : Q rest

pub field_then : (n : ℕ) (name : List ℕ) (shape : Shape) (Q : List Placed → Type 0)
    → ((us : List Placed) → Q us → Calm us) → (us : List Placed)
    → Then (IsNamed name) (Then (Is marks.Colon) (Armed n shape Q)) us → FieldThen n name shape Q us
field_then n name shape Q q us t =
    let c = t.holds in
    let s = c.holds in
    let w : us ≡ t.first ∷ c.first ∷ c.rest = t.whole ∙ ap (λ vs. t.first ∷ vs) c.whole in
    let p = patterns.At (from_of c.rest) s.form in
    let inner = whole n c.rest s.rest s.form s.spelled s.fresh (q s.rest s.holds).bar in
    record {
      inner = p;
      rest = s.rest;
      spelled = rw w (labelled (t.first ∷ c.first ∷ c.rest) (t.first ∷ c.first ∷ c.rest) c.rest s.rest [] name p
          (no_more (t.first ∷ c.first ∷ c.rest) (rw t.is.1 refl))
          (label t.first c.first c.rest name (rw t.is.1 refl) c.is) inner);
      form = s.form;
      from = from_of c.rest;
      is = refl;
      same = s.same;
      holds = s.holds;
    }
