-- The NFC of an identifier is an identifier.
use Rattle.std.proofs.Common.{◌≡◌, ℕ, ◌+◌, ◌-◌, ◌/◌, ◌%◌, ◌<◌, ◌≤◌, Bool, true, false, not, ◌&&◌, ◌||◌, ◌==◌, List, []}
use Rattle.std.proofs.Common.{◌∷◌, ◌++◌, flat_map, Some, refl, sym, ap, subst, ◌∙◌, arith, inl, inr, ◌⊎◌}
use Rattle.std.proofs.lemmas.Bool.{cases_Bool, cases_eq, cases_lt, and_parts, and_from, eqb-true}
use Rattle.std.proofs.lemmas.Bool.Decides.{nat_tests}
use Rattle.std.specs.List.{list_all}
use lib.Utf8.{scalar, scalars}
use Rattle.ucd_normal.specs.declared.forms.Form.TheVariants.{Nfc}
use Rattle.ucd_normal.specs.CanonicalCombiningClass.{canonical_combining_class as ccc}
use Rattle.ucd_normal.specs.Composition.{IsCompositeOf}
use Rattle.ucd_normal.specs.Decomposition.{decomposition, if_canonical}
use Rattle.ucd_normal.proofs.CompositionLemmas.{is_empty}
use Rattle.unicode_ident.specs.Ident.{is_xid_start, is_xid_continue}
use Rattle.unicode_normalization.specs.Compose.{primary_composite, compose_after, compose}
use Rattle.unicode_normalization.specs.Decompose.{decompose}
use Rattle.unicode_normalization.specs.Forms.{decomposed, nfc}
use Rattle.unicode_normalization.specs.Hangul.{is_among, is_syllable, decompose_hangul}
use Rattle.unicode_normalization.specs.Order.{canonical_order}
use Rattle.unicode_normalization.proofs.ComposeLemmas.{compose_after-nil, compose_after-cases, compose-starter}
use Rattle.unicode_normalization.proofs.DecomposeLemmas.{decompose-syllable, decompose-mapped, decompose-final}
use Rattle.unicode_normalization.proofs.DecomposeLemmas.{primary_composite-some}
use Rattle.unicode_normalization.proofs.FormsLemmas.{normalize-Nfc, class-latin}
use Rattle.unicode_normalization.proofs.HangulLemmas.{is_syllable-true, decompose_hangul-two, decompose_hangul-three}
use Rattle.unicode_normalization.proofs.HangulLemmas.{IsLv, IsLvt}
use Rattle.unicode_normalization.proofs.KeptLemmas.{list_all-decomposed, list_all-normalize}
use Rattle.unicode_normalization.proofs.OrderLemmas.{canonical_order-cons, sink-starter}
use Rattle.unicode_normalization.proofs.TableFacts as facts
use Rattle.name_laws.specs.Identifiers.{begins_identifier, is_begun, IsIdentifier}
use Rattle.name_laws.specs.Laws.{NfcOfIdentifier}
use Rattle.name_laws.proofs.Tables.{by_rows, jamo_continue, jamo_start, syllable_continue, syllable_start, surrogates}
use Rattle.name_laws.proofs.Tables.{starters, beyond, from_within, full, is_headed, pair_kept, all_kept}

-- what follows from a test that passes
implied : (a b : Bool) → (not a || b) ≡ true → a ≡ true → b ≡ true
implied true b h e = h
implied false b h e = absurd cc

-- ---- what is known of a decomposition

record Kept (c : ℕ) : Type 0 where
  continued : is_xid_continue c ≡ true → list_all is_xid_continue (full by_rows c) ≡ true
  begun : begins_identifier c ≡ true → is_headed by_rows (full by_rows c) ≡ true
  pair : pair_kept by_rows c (if_canonical (decomposition c)) ≡ true

kept : (c : ℕ) → is_empty (if_canonical (decomposition c)) ≡ false → Kept c
kept c some =
    let all = and_parts (not (is_xid_continue c) || list_all is_xid_continue (full by_rows c)) _ (all_kept c some) in
    let rest = and_parts (not (begins_identifier c) || is_headed by_rows (full by_rows c))
    (pair_kept by_rows c (if_canonical (decomposition c))) all.1 in
    record {
      continued = implied (is_xid_continue c) _ all.0;
      begun = implied (begins_identifier c) _ rest.0;
      pair = rest.1;
    }

-- ---- jamo and syllables

jamo : (c : ℕ) → 0x1100 ≤ c → c < 0x1200 → is_xid_continue c ≡ true
jamo c low high = from_within is_xid_continue 0x1100 0x100 c (jamo_continue c) low high

both_jamo : (s : ℕ) → 0xAC00 ≤ s → s < 0xD7A4 → list_all is_xid_continue (decompose_hangul s) ≡ true
both_jamo s low high =
    let l : is_xid_continue (0x1100 + (s - 0xAC00) / 588) ≡ true = jamo _ (omega arith) (omega arith) in
    let v : is_xid_continue (0x1161 + (s - 0xAC00) % 588 / 28) ≡ true = jamo _ (omega arith) (omega arith) in
    let t : is_xid_continue (0x11A7 + (s - 0xAC00) % 28) ≡ true = jamo _ (omega arith) (omega arith) in
    elim (cases_eq ((s - 0xAC00) % 28) 0) [
      | inl same ↦ ap (list_all is_xid_continue) (decompose_hangul-two s same) ∙ rw (l, v) refl
      | inr other ↦ ap (list_all is_xid_continue) (decompose_hangul-three s other) ∙ rw (l, v, t) refl
    ]

-- ---- one character

one_kept : (c : ℕ) → is_xid_continue c ≡ true → list_all is_xid_continue (c ∷ []) ≡ true
one_kept c h = rw h refl

pub final_from : (c : ℕ) → is_syllable c ≡ false → is_empty (if_canonical (decomposition c)) ≡ true
    → facts.is_final Nfc c ≡ true
final_from c other none_there = rw (none_there, other) refl

decompose_kept : (c : ℕ) → is_xid_continue c ≡ true → list_all is_xid_continue (decompose Nfc c) ≡ true
decompose_kept c h =
    elim (cases_Bool (is_syllable c)) [
      | inl is_one ↦
          let range = is_syllable-true c is_one in
          ap (list_all is_xid_continue) (decompose-syllable Nfc c is_one) ∙ both_jamo c range.0 range.1
      | inr other ↦ elim (cases_Bool (is_empty (if_canonical (decomposition c)))) [
        | inl none_there ↦
            ap (list_all is_xid_continue) (decompose-final Nfc c (final_from c other none_there)) ∙ one_kept c h
        | inr some ↦ ap (list_all is_xid_continue) (decompose-mapped Nfc c other some) ∙ (kept c some).continued h
      ]
    ]

-- what a decomposition begins with
record Headed (cs : List ℕ) : Type 0 where
  first : ℕ
  others : List ℕ
  whole : cs ≡ first ∷ others
  begins : begins_identifier first ≡ true
  starter : ccc first ≤ 0

start_starter : (c : ℕ) → begins_identifier c ≡ true → ccc c ≤ 0
start_starter c h = by_case (is_xid_start c) refl
  where
    by_case : (b : Bool) → is_xid_start c ≡ b → ccc c ≤ 0
    by_case true e =
        let z = eqb-true (ccc c) 0 (implied (is_xid_start c) (ccc c == 0) (starters c) e) in omega (arith, z)
    by_case false e =
        let k : (c == 95) ≡ true = rw e at h in
        let same : c ≡ 95 = eqb-true c 95 k in
        let z = class-latin 95 (omega arith) in
        subst (λ x. ccc x ≤ 0) (sym same) (omega (arith, z))

headed_list : (cs : List ℕ) → is_headed by_rows cs ≡ true → Headed cs
headed_list [] h = absurd cc
headed_list (s ∷ ts) h =
    let parts = and_parts (begins_identifier s) (ccc s == 0) h in
    let z = eqb-true (ccc s) 0 parts.1 in
    record { first = s; others = ts; whole = refl; begins = parts.0; starter = omega (arith, z) }

same_head : (xs ys : List ℕ) → xs ≡ ys → Headed ys → Headed xs
same_head xs ys e h = subst Headed (sym e) h

leading : (s : ℕ) → 0xAC00 ≤ s → s < 0xD7A4 → begins_identifier (0x1100 + (s - 0xAC00) / 588) ≡ true
leading s low high =
    let start : is_xid_start (0x1100 + (s - 0xAC00) / 588) ≡ true =
    from_within is_xid_start 0x1100 0x100 (0x1100 + (s - 0xAC00) / 588) (jamo_start (0x1100 + (s - 0xAC00) / 588))
    (omega arith) (omega arith) in
    rw start refl

leading_head : (s : ℕ) (ts : List ℕ) → 0xAC00 ≤ s → s < 0xD7A4 → Headed ((0x1100 + (s - 0xAC00) / 588) ∷ ts)
leading_head s ts low high =
    let l = 0x1100 + (s - 0xAC00) / 588 in
    let b : begins_identifier (0x1100 + (s - 0xAC00) / 588) ≡ true = leading s low high in
    record { first = l; others = ts; whole = refl; begins = b; starter = start_starter l b }

hangul_head : (s : ℕ) → 0xAC00 ≤ s → s < 0xD7A4 → Headed (decompose_hangul s)
hangul_head s low high =
    elim (cases_eq ((s - 0xAC00) % 28) 0) [
      | inl same ↦ same_head _ _ (decompose_hangul-two s same) (leading_head s _ low high)
      | inr other ↦ same_head _ _ (decompose_hangul-three s other) (leading_head s _ low high)
    ]

decompose_head : (c : ℕ) → begins_identifier c ≡ true → Headed (decompose Nfc c)
decompose_head c h =
    elim (cases_Bool (is_syllable c)) [
      | inl is_one ↦
          let range = is_syllable-true c is_one in
          same_head _ _ (decompose-syllable Nfc c is_one) (hangul_head c range.0 range.1)
      | inr other ↦ elim (cases_Bool (is_empty (if_canonical (decomposition c)))) [
        | inl none_there ↦
            same_head _ _ (decompose-final Nfc c (final_from c other none_there))
            (record { first = c; others = []; whole = refl; begins = h; starter = start_starter c h })
        | inr some ↦ same_head _ _ (decompose-mapped Nfc c other some) (headed_list _ ((kept c some).begun h))
      ]
    ]

-- ---- composites

lv_range : (l v p : ℕ) → IsLv l v p → (0xAC00 ≤ p) × (p < 0xD7A4)
lv_range l v p h = let a = h.leading in let b = h.vowel in let e = h.value in (omega arith, omega arith)

lvt_range : (s t p : ℕ) → IsLvt s t p → (0xAC00 ≤ p) × (p < 0xD7A4)
lvt_range s t p h = let a = h.syllable in let b = h.open_end in let d = h.trailing in let e = h.value in (omega arith, omega arith)

syllable_kept : (p : ℕ) → (0xAC00 ≤ p) × (p < 0xD7A4) → (is_xid_continue p ≡ true) × (begins_identifier p ≡ true)
syllable_kept p range =
    let start : is_xid_start p ≡ true = from_within is_xid_start 0xAC00 11172 p (syllable_start p) range.0
    (let r = range.1 in omega (arith, r)) in (
      from_within is_xid_continue 0xAC00 11172 p (syllable_continue p) range.0 (let r = range.1 in omega (arith, r)),
      rw start refl,
    )

-- what a pair keeps
record Pair (a b p : ℕ) : Type 0 where
  continued : is_xid_continue a ≡ true → is_xid_continue b ≡ true → is_xid_continue p ≡ true
  begun : begins_identifier a ≡ true → is_xid_continue b ≡ true → begins_identifier p ≡ true

pair_of : (a b p : ℕ) → IsCompositeOf a b p → Pair a b p
pair_of a b p h =
    let k = (kept p (ap is_empty h.mapping)).pair in
    let e : pair_kept by_rows p (a ∷ b ∷ []) ≡ true = sym (ap (pair_kept by_rows p) h.mapping) ∙ k in
    let parts = and_parts (not (is_xid_continue a && is_xid_continue b) || is_xid_continue p) _ e in
    record {
      continued = λ x y. implied (is_xid_continue a && is_xid_continue b) _ parts.0 (and_from _ _ x y);
      begun = λ x y. implied (begins_identifier a && is_xid_continue b) _ parts.1 (and_from _ _ x y);
    }

composite_of : (a b p : ℕ) → primary_composite a b ≡ Some p → Pair a b p
composite_of a b p h =
    elim (primary_composite-some a b p h) [
      | inl hangul ↦ elim hangul [
        | inl lv ↦
            let k = syllable_kept p (lv_range a b p lv) in record { continued = λ x y. k.0; begun = λ x y. k.1 }
        | inr lvt ↦
            let k = syllable_kept p (lvt_range a b p lvt) in record { continued = λ x y. k.0; begun = λ x y. k.1 }
      ]
      | inr table ↦ pair_of a b p table
    ]

-- ---- the whole text

nfc_continued : (cs : List ℕ) → list_all is_xid_continue cs ≡ true → list_all is_xid_continue (nfc cs) ≡ true
nfc_continued cs h = list_all-normalize Nfc is_xid_continue decompose_kept
    (λ a b c x y e. (composite_of a b c e).continued x y) cs h

-- composition keeps what begins an identifier in front
first_kept : (s : ℕ) (bs cs : List ℕ) → begins_identifier s ≡ true → list_all is_xid_continue cs ≡ true
    → is_begun (compose_after s bs cs) ≡ true
first_kept s bs [] h all = ap is_begun (compose_after-nil s bs) ∙ h
first_kept s bs (c ∷ cs) h all =
    let parts = and_parts (is_xid_continue c) (list_all is_xid_continue cs) all in
    compose_after-cases s bs c cs (λ l. is_begun l ≡ true)
    (λ p free e. first_kept p bs cs ((composite_of s c p e).begun h parts.0) parts.1)
    (λ none_made starter. h)
    (λ none_made mark. first_kept s (bs ++ c ∷ []) cs h parts.1)

composed_begun : (s : ℕ) (cs : List ℕ) → begins_identifier s ≡ true → ccc s ≤ 0 → list_all is_xid_continue cs ≡ true
    → is_begun (compose (s ∷ cs)) ≡ true
composed_begun s cs h z all = ap is_begun (compose-starter s cs z) ∙ first_kept s [] cs h all

ordered_head : (s : ℕ) (ts : List ℕ) → ccc s ≤ 0 → canonical_order (s ∷ ts) ≡ s ∷ canonical_order ts
ordered_head s ts z = canonical_order-cons s ts ∙ sink-starter s (canonical_order ts) z

nfc_begun : (cs : List ℕ) → IsIdentifier cs → is_begun (nfc cs) ≡ true
unfolding decomposed
nfc_begun [] i = absurd (no_first i.begun)
  where
    no_first : false ≡ true → ⊥
    no_first e = cc
nfc_begun (c ∷ cs) i =
    let d = decompose_head c i.begun in
    let rest = flat_map (decompose Nfc) cs in
    let zs = canonical_order (d.others ++ rest) in
    let front : decomposed Nfc (c ∷ cs) ≡ d.first ∷ zs =
    ap (λ xs. canonical_order (xs ++ rest)) d.whole ∙ ordered_head d.first (d.others ++ rest) d.starter in
    let all : list_all is_xid_continue (d.first ∷ zs) ≡ true =
    ap (list_all is_xid_continue) (sym front) ∙ list_all-decomposed Nfc is_xid_continue decompose_kept (c ∷ cs) i.continued in
    let parts = and_parts (is_xid_continue d.first) (list_all is_xid_continue zs) all in
    ap is_begun (normalize-Nfc (c ∷ cs)) ∙ ap (λ xs. is_begun (compose xs)) front
    ∙ composed_begun d.first zs d.begins d.starter parts.1

-- ---- scalar values

continue_scalar : (c : ℕ) → is_xid_continue c ≡ true → scalar c ≡ true
continue_scalar c h = by_size (cases_lt 0x10_FFFF c)
  where
    by_surrogate : c < 0x11_0000 → (b : Bool) → is_among 0xD800 0x800 c ≡ b → scalar c ≡ true
    by_surrogate lt true e =
        let k = implied (is_among 0xD800 0x800 c) (not (is_xid_continue c)) (surrogates c) e in
        let clash : false ≡ true = rw h at k in absurd cc
    by_surrogate lt false e = grind (arith, nat_tests)

    by_size : (0x10_FFFF < c) ⊎ (c ≤ 0x10_FFFF) → scalar c ≡ true
    by_size (inl lt) = let e = beyond c lt in absurd cc
    by_size (inr le) = by_surrogate (omega (arith, le)) (is_among 0xD800 0x800 c) refl

all_scalar : (cs : List ℕ) → list_all is_xid_continue cs ≡ true → scalars cs ≡ true
all_scalar [] h = refl
all_scalar (c ∷ cs) h =
    let parts = and_parts (is_xid_continue c) (list_all is_xid_continue cs) h in
    and_from (scalar c) (scalars cs) (continue_scalar c parts.0) (all_scalar cs parts.1)

pub nfc_of_identifier : NfcOfIdentifier
nfc_of_identifier cs i =
    let continued = nfc_continued cs i.continued in
    (record { begun = nfc_begun cs i; continued = continued }, all_scalar (nfc cs) continued)
