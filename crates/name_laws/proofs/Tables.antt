-- Facts about the tables, each shown by a computation.
use Rattle.std.proofs.Common.{◌≡◌, ℕ, ◌+◌, ◌<◌, ◌≤◌, Bool, true, false, not, ◌&&◌, ◌||◌, ◌==◌, List, []}
use Rattle.std.proofs.Common.{◌∷◌, refl, sym, ap, ◌∙◌, inl, inr, lt-ltb, le-ltb, le-leb}
use Rattle.std.proofs.lemmas.Bool.{cases_lt, and_from, and_left, and_right, lt-leb}
use Rattle.std.specs.Char.{is_ascii_alphanumeric}
use Rattle.std.specs.List.{list_all}
use Rattle.ucd_table.proofs.StepsLemmas.{step_value-nil, step_value-here, step_value-later}
use Rattle.ucd_table.proofs.Stepped.{Stepped, zip_stepped}
use Rattle.ucd_table.proofs.Facts.{tree_value, tree_of, tree_value-tree_of, Stepped-beyond, Stepped-everywhere}
use Rattle.ucd_table.proofs.RangedFacts.{points_ok, values_ok, Stepped-at_points}
use Rattle.ucd_table.proofs.Computing.{tables}
use Rattle.ucd_derived.proofs.BinaryLemmas.{is_xid_start_stepped, is_xid_continue_stepped}
use Rattle.ucd_normal.specs.CanonicalCombiningClass.{canonical_combining_class as ccc}
use Rattle.ucd_normal.specs.Decomposition.{decomposition, if_canonical, expand}
use Rattle.ucd_normal.specs.DecompositionRows.{Tag}
use Rattle.ucd_normal.proofs.CanonicalCombiningClassLemmas.{canonical_combining_class_stepped}
use Rattle.ucd_normal.proofs.CompositionLemmas.{is_empty}
use Rattle.ucd_normal.proofs.DecompositionLemmas.{decomposition_stepped}
use Rattle.unicode_ident.specs.Ident.{is_xid_start, is_xid_continue}
use Rattle.unicode_normalization.specs.Hangul.{is_among}

abbrev pub Entry : Type 0
Entry = Tag × List ℕ

-- the tables as functions, which a test may read by a tree
pub record Tables : Type 0 where
  pub class : ℕ → ℕ
  pub entry : ℕ → Entry
  pub start : ℕ → Bool
  pub goes_on : ℕ → Bool

abbrev pub by_rows : Tables
by_rows = record { class = ccc; entry = decomposition; start = is_xid_start; goes_on = is_xid_continue }

abbrev by_tree : {V : Type 0} (f : ℕ → V) → Stepped f → ℕ → V
by_tree f s = tree_value s.default (tree_of f s)

by_trees : Tables
unfolding tables points_ok values_ok expand canonical_combining_class_stepped decomposition_stepped is_xid_start_stepped is_xid_continue_stepped
by_trees = record {
  class = by_tree ccc canonical_combining_class_stepped;
  entry = by_tree decomposition decomposition_stepped;
  start = by_tree is_xid_start is_xid_start_stepped;
  goes_on = by_tree is_xid_continue is_xid_continue_stepped;
}

same_tables : by_rows ≡ by_trees
unfolding by_trees
same_tables = λ i. record {
  class = tree_value-tree_of ccc canonical_combining_class_stepped i;
  entry = tree_value-tree_of decomposition decomposition_stepped i;
  start = tree_value-tree_of is_xid_start is_xid_start_stepped i;
  goes_on = tree_value-tree_of is_xid_continue is_xid_continue_stepped i;
}

-- ---- ranges of code points

among_stepped : (base count : ℕ) → Stepped (is_among base count)
among_stepped base count = record {
  default = false;
  steps = (base, false) ∷ (base + count, true) ∷ [];
  gives = λ c. elim (cases_lt c base) [
    | inl before ↦ and_left _ _ (lt-leb base c before) ∙ sym (step_value-here false (base, false) _ c before)
    | inr from ↦ elim (cases_lt c (base + count)) [
      | inl within ↦
          and_from _ _ (le-leb base c from) (lt-ltb c (base + count) within)
          ∙ sym (step_value-later false (base, false) _ c from ∙ step_value-here false (base + count, true) [] c within)
      | inr after ↦
          and_right _ _ (le-ltb c (base + count) after)
          ∙ sym (step_value-later false (base, false) _ c from
          ∙ step_value-later false (base + count, true) [] c after ∙ step_value-nil false c)
    ]
  ];
}

-- each code point of a range passes
abbrev pub Within : (ℕ → Bool) → ℕ → ℕ → Type 0
Within p base count = (c : ℕ) → (not (is_among base count c) || p c) ≡ true

pub jamo_continue : Within is_xid_continue 0x1100 0x100
unfolding by_trees among_stepped
jamo_continue = Stepped-everywhere _ (zip_stepped (λ inside v. not inside || v) (is_among 0x1100 0x100) is_xid_continue
    (among_stepped 0x1100 0x100) is_xid_continue_stepped) refl

pub jamo_start : Within is_xid_start 0x1100 0x100
unfolding by_trees among_stepped
jamo_start = Stepped-everywhere _ (zip_stepped (λ inside v. not inside || v) (is_among 0x1100 0x100) is_xid_start
    (among_stepped 0x1100 0x100) is_xid_start_stepped) refl

pub syllable_continue : Within is_xid_continue 0xAC00 11172
unfolding by_trees among_stepped
syllable_continue = Stepped-everywhere _ (zip_stepped (λ inside v. not inside || v) (is_among 0xAC00 11172)
    is_xid_continue (among_stepped 0xAC00 11172) is_xid_continue_stepped) refl

pub syllable_start : Within is_xid_start 0xAC00 11172
unfolding by_trees among_stepped
syllable_start = Stepped-everywhere _ (zip_stepped (λ inside v. not inside || v) (is_among 0xAC00 11172) is_xid_start
    (among_stepped 0xAC00 11172) is_xid_start_stepped) refl

-- no character of an identifier is a surrogate
pub surrogates : (c : ℕ) → (not (is_among 0xD800 0x800 c) || not (is_xid_continue c)) ≡ true
unfolding by_trees among_stepped
surrogates = Stepped-everywhere _ (zip_stepped (λ inside v. not inside || not v) (is_among 0xD800 0x800) is_xid_continue
    (among_stepped 0xD800 0x800) is_xid_continue_stepped) refl

-- what begins an identifier is a starter
pub starters : (c : ℕ) → (not (is_xid_start c) || ccc c == 0) ≡ true
unfolding by_trees
starters = Stepped-everywhere _ (zip_stepped (λ v n. not v || n == 0) is_xid_start ccc is_xid_start_stepped
    canonical_combining_class_stepped) refl

-- no number beyond the code points is a character of an identifier
pub beyond : (c : ℕ) → 0x10_FFFF < c → is_xid_continue c ≡ false
unfolding by_trees
beyond c lt = Stepped-beyond is_xid_continue is_xid_continue_stepped refl c lt

pub from_within : (p : ℕ → Bool) (base count c : ℕ) → (not (is_among base count c) || p c) ≡ true → base ≤ c
    → c < base + count → p c ≡ true
from_within p base count c h low high =
    let inside : is_among base count c ≡ true =
    and_from _ _ (le-leb base c low) (lt-ltb c (base + count) high) in
    ap (λ b. not b || p c) (sym inside) ∙ h

-- ---- decompositions

-- the full canonical decomposition
abbrev pub full : Tables → ℕ → List ℕ
full t c = expand (λ y. if_canonical (t.entry y)) 3 c

abbrev pub begins : Tables → ℕ → Bool
begins t c = t.start c || c == 95

abbrev pub is_headed : Tables → List ℕ → Bool
is_headed t [] = false
is_headed t (s ∷ ts) = begins t s && t.class s == 0

abbrev pub pair_kept : Tables → ℕ → List ℕ → Bool
pair_kept t p (a ∷ b ∷ []) =
    (not (t.goes_on a && t.goes_on b) || t.goes_on p) && (not (begins t a && t.goes_on b) || begins t p)
pair_kept t p _ = true

-- a decomposition of a character of an identifier is one of an identifier, and so is a composition
abbrev pub is_kept : Tables → ℕ → Entry → Bool
is_kept t c entry =
    (not (t.goes_on c) || list_all t.goes_on (full t c))
    && ((not (begins t c) || is_headed t (full t c)) && pair_kept t c (if_canonical entry))

pub all_kept : (c : ℕ) → is_empty (if_canonical (decomposition c)) ≡ false → is_kept by_rows c (decomposition c) ≡ true
unfolding by_trees
all_kept c some =
    ap (λ t. is_kept t c (decomposition c)) same_tables
    ∙ Stepped-at_points decomposition decomposition_stepped (λ e. is_empty (if_canonical e)) (is_kept by_trees) refl c some

-- a letter of ASCII but `K`, a digit or `_`: what keywords are made of
abbrev pub is_plain : ℕ → Bool
is_plain c = (is_ascii_alphanumeric c || c == 95) && not (c == 75)

-- nothing decomposes into such characters alone
abbrev pub is_foreign : Tables → ℕ → Entry → Bool
is_foreign t c entry = not (list_all is_plain (full t c))

pub all_foreign : (c : ℕ) → is_empty (if_canonical (decomposition c)) ≡ false
    → is_foreign by_rows c (decomposition c) ≡ true
unfolding by_trees
all_foreign c some =
    ap (λ t. is_foreign t c (decomposition c)) same_tables
    ∙ Stepped-at_points decomposition decomposition_stepped (λ e. is_empty (if_canonical e)) (is_foreign by_trees) refl c some
