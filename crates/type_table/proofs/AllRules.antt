-- The least fault of all rules.
use Rattle.std.proofs.Common.{◌≡◌, ℕ, ◌<◌, Bool, true, List, [], ◌∷◌, length, take, Option, None, inl, inr, arith, suc, zero}
use Rattle.std.specs.Prelude.{slice_get}
use Rattle.match_model.specs.declared.Width.{Width}
use Rattle.decl_syntax.specs.Items.{ItemTree}
use Rattle.type_names.specs.declared.item_rules.ItemRule.{ItemRule}
use Rattle.type_names.specs.declared.item_rules.ItemRule.TheVariants as item_rules
use Rattle.type_names.specs.declared.type_rules.TypeRule.TheVariants as type_rules
use Rattle.type_names.specs.Written.{program_of}
use Rattle.type_names.specs.NameRules.{is_named_twice}
use Rattle.type_names.specs.Rules.{FirstOf, passes, item_test, named_twice_at, breaks_at}
use Rattle.type_table.specs.Faults.{Breaks, name_twice, variant_twice, field_twice, unknown_type, sizeless_place, contains_itself, array_length, argument_count, bad_use, unsupported_attribute, endless_type, ContainsItself, IsEndless, FirstThat, LeastFault}
use Rattle.type_table.specs.Readings.{earlier}
use Rattle.type_table.proofs.LeastFaults.{WithRule, least_more, low_more, first_that, least_same}

pub passes_within : (test : ItemTree → Bool) (items : List ItemTree) (j : ℕ) → passes test (slice_get items j) ≡ true → j < length items
passes_within test [] j h = absurd cc
passes_within test (x ∷ xs) zero h = omega arith
passes_within test (x ∷ xs) (suc j) h = let below : j < length xs = passes_within test xs j h in omega arith

-- the first item that breaks a rule by itself
pub first_breaking : (rule : ItemRule) (items : List ItemTree) (found : Option ℕ) → FirstOf (breaks_at rule items) (length items) found → FirstThat (λ i. breaks_at rule items i ≡ true) found
first_breaking rule items found first = first_that (breaks_at rule items) (length items) found (λ j h. passes_within (item_test rule items) items j h) first

pub first_named : (items : List ItemTree) (found : Option ℕ) → FirstOf (named_twice_at items) (length items) found → FirstThat (λ i. named_twice_at items i ≡ true) found
first_named items found first = first_that (named_twice_at items) (length items) found (λ j h. passes_within (λ item. is_named_twice items (take j items) item.kind) items j h) first

abbrev NoneBroken : ℕ → ℕ → Type 0
NoneBroken i rule = ⊥

-- the least fault of the rules below this one
record UpTo (broken : ℕ → ℕ → Type 0) (next : ℕ) (best : Option (ℕ × ℕ)) : Type 0 where
  low : (i other : ℕ) → broken i other → other < next
  least : LeastFault broken best

none_broken : UpTo NoneBroken 10 None
none_broken = record { low = λ i other h. absurd h; least = λ i rule h. h }

one_more : (broken : ℕ → ℕ → Type 0) (rule next : ℕ) (P : ℕ → Type 0) (best : Option (ℕ × ℕ)) (found : Option ℕ) → rule < next →
    UpTo broken rule best → FirstThat P found → UpTo (WithRule broken rule P) next (earlier best rule found)
one_more broken rule next P best found lt before first = record {
  low = low_more broken rule next P lt before.low;
  least = least_more broken rule P best found before.low before.least first;
}

module _ (items : List ItemTree) (width : Width) where
  abbrev To10 : ℕ → ℕ → Type 0
  To10 = WithRule NoneBroken 10 (λ i. named_twice_at items i ≡ true)

  abbrev To11 : ℕ → ℕ → Type 0
  To11 = WithRule To10 11 (λ i. breaks_at item_rules.VariantTwice items i ≡ true)

  abbrev To12 : ℕ → ℕ → Type 0
  To12 = WithRule To11 12 (λ i. breaks_at item_rules.FieldTwice items i ≡ true)

  abbrev To13 : ℕ → ℕ → Type 0
  To13 = WithRule To12 13 (λ i. breaks_at (item_rules.Written type_rules.UnknownType) items i ≡ true)

  abbrev To14 : ℕ → ℕ → Type 0
  To14 = WithRule To13 14 (λ i. breaks_at (item_rules.Written type_rules.SizelessPlace) items i ≡ true)

  abbrev To15 : ℕ → ℕ → Type 0
  To15 = WithRule To14 15 (ContainsItself (program_of items width))

  abbrev To16 : ℕ → ℕ → Type 0
  To16 = WithRule To15 16 (λ i. breaks_at (item_rules.Written type_rules.ArrayLength) items i ≡ true)

  abbrev To17 : ℕ → ℕ → Type 0
  To17 = WithRule To16 17 (λ i. breaks_at (item_rules.Written type_rules.ArgumentCount) items i ≡ true)

  abbrev To18 : ℕ → ℕ → Type 0
  To18 = WithRule To17 18 (λ i. breaks_at item_rules.BadUse items i ≡ true)

  abbrev To19 : ℕ → ℕ → Type 0
  To19 = WithRule To18 19 (λ i. breaks_at item_rules.UnsupportedAttribute items i ≡ true)

  abbrev To36 : ℕ → ℕ → Type 0
  To36 = WithRule To19 36 (IsEndless (program_of items width))

  pub all_rules : (f10 : Option ℕ) (f11 : Option ℕ) (f12 : Option ℕ) (f13 : Option ℕ) (f14 : Option ℕ) (f15 : Option ℕ) (f16 : Option ℕ) (f17 : Option ℕ) (f18 : Option ℕ) (f19 : Option ℕ) (f36 : Option ℕ) →
      FirstThat (λ i. named_twice_at items i ≡ true) f10 →
      FirstThat (λ i. breaks_at item_rules.VariantTwice items i ≡ true) f11 →
      FirstThat (λ i. breaks_at item_rules.FieldTwice items i ≡ true) f12 →
      FirstThat (λ i. breaks_at (item_rules.Written type_rules.UnknownType) items i ≡ true) f13 →
      FirstThat (λ i. breaks_at (item_rules.Written type_rules.SizelessPlace) items i ≡ true) f14 →
      FirstThat (ContainsItself (program_of items width)) f15 →
      FirstThat (λ i. breaks_at (item_rules.Written type_rules.ArrayLength) items i ≡ true) f16 →
      FirstThat (λ i. breaks_at (item_rules.Written type_rules.ArgumentCount) items i ≡ true) f17 →
      FirstThat (λ i. breaks_at item_rules.BadUse items i ≡ true) f18 →
      FirstThat (λ i. breaks_at item_rules.UnsupportedAttribute items i ≡ true) f19 →
      FirstThat (IsEndless (program_of items width)) f36 →
      LeastFault To36 (earlier (earlier (earlier (earlier (earlier (earlier (earlier (earlier (earlier (earlier (earlier None 10 f10) 11 f11) 12 f12) 13 f13) 14 f14) 15 f15) 16 f16) 17 f17) 18 f18) 19 f19) 36 f36)
  all_rules f10 f11 f12 f13 f14 f15 f16 f17 f18 f19 f36 h10 h11 h12 h13 h14 h15 h16 h17 h18 h19 h36 =
      let l10 = one_more NoneBroken 10 11 (λ i. named_twice_at items i ≡ true) None f10 (omega arith) none_broken h10 in
      let l11 = one_more To10 11 12 (λ i. breaks_at item_rules.VariantTwice items i ≡ true) (earlier None 10 f10) f11 (omega arith) l10 h11 in
      let l12 = one_more To11 12 13 (λ i. breaks_at item_rules.FieldTwice items i ≡ true) (earlier (earlier None 10 f10) 11 f11) f12 (omega arith) l11 h12 in
      let l13 = one_more To12 13 14 (λ i. breaks_at (item_rules.Written type_rules.UnknownType) items i ≡ true) (earlier (earlier (earlier None 10 f10) 11 f11) 12 f12) f13 (omega arith) l12 h13 in
      let l14 = one_more To13 14 15 (λ i. breaks_at (item_rules.Written type_rules.SizelessPlace) items i ≡ true) (earlier (earlier (earlier (earlier None 10 f10) 11 f11) 12 f12) 13 f13) f14 (omega arith) l13 h14 in
      let l15 = one_more To14 15 16 (ContainsItself (program_of items width)) (earlier (earlier (earlier (earlier (earlier None 10 f10) 11 f11) 12 f12) 13 f13) 14 f14) f15 (omega arith) l14 h15 in
      let l16 = one_more To15 16 17 (λ i. breaks_at (item_rules.Written type_rules.ArrayLength) items i ≡ true) (earlier (earlier (earlier (earlier (earlier (earlier None 10 f10) 11 f11) 12 f12) 13 f13) 14 f14) 15 f15) f16 (omega arith) l15 h16 in
      let l17 = one_more To16 17 18 (λ i. breaks_at (item_rules.Written type_rules.ArgumentCount) items i ≡ true) (earlier (earlier (earlier (earlier (earlier (earlier (earlier None 10 f10) 11 f11) 12 f12) 13 f13) 14 f14) 15 f15) 16 f16) f17 (omega arith) l16 h17 in
      let l18 = one_more To17 18 19 (λ i. breaks_at item_rules.BadUse items i ≡ true) (earlier (earlier (earlier (earlier (earlier (earlier (earlier (earlier None 10 f10) 11 f11) 12 f12) 13 f13) 14 f14) 15 f15) 16 f16) 17 f17) f18 (omega arith) l17 h18 in
      let l19 = one_more To18 19 36 (λ i. breaks_at item_rules.UnsupportedAttribute items i ≡ true) (earlier (earlier (earlier (earlier (earlier (earlier (earlier (earlier (earlier None 10 f10) 11 f11) 12 f12) 13 f13) 14 f14) 15 f15) 16 f16) 17 f17) 18 f18) f19 (omega arith) l18 h19 in
      least_more To19 36 (IsEndless (program_of items width)) (earlier (earlier (earlier (earlier (earlier (earlier (earlier (earlier (earlier (earlier None 10 f10) 11 f11) 12 f12) 13 f13) 14 f14) 15 f15) 16 f16) 17 f17) 18 f18) 19 f19) f36 l19.low l19.least h36

  to_breaks : (i rule : ℕ) → To36 i rule → Breaks items width i rule
  to_breaks i rule (inr p) = endless_type p.0 p.1
  to_breaks i rule (inl (inr p)) = unsupported_attribute p.0 p.1
  to_breaks i rule (inl (inl (inr p))) = bad_use p.0 p.1
  to_breaks i rule (inl (inl (inl (inr p)))) = argument_count p.0 p.1
  to_breaks i rule (inl (inl (inl (inl (inr p))))) = array_length p.0 p.1
  to_breaks i rule (inl (inl (inl (inl (inl (inr p)))))) = contains_itself p.0 p.1
  to_breaks i rule (inl (inl (inl (inl (inl (inl (inr p))))))) = sizeless_place p.0 p.1
  to_breaks i rule (inl (inl (inl (inl (inl (inl (inl (inr p)))))))) = unknown_type p.0 p.1
  to_breaks i rule (inl (inl (inl (inl (inl (inl (inl (inl (inr p))))))))) = field_twice p.0 p.1
  to_breaks i rule (inl (inl (inl (inl (inl (inl (inl (inl (inl (inr p)))))))))) = variant_twice p.0 p.1
  to_breaks i rule (inl (inl (inl (inl (inl (inl (inl (inl (inl (inl (inr p))))))))))) = name_twice p.0 p.1
  to_breaks i rule (inl (inl (inl (inl (inl (inl (inl (inl (inl (inl (inl h))))))))))) = absurd h

  from_breaks : (i rule : ℕ) → Breaks items width i rule → To36 i rule
  from_breaks i rule (endless_type e h) = (inr (e, h))
  from_breaks i rule (unsupported_attribute e h) = (inl (inr (e, h)))
  from_breaks i rule (bad_use e h) = (inl (inl (inr (e, h))))
  from_breaks i rule (argument_count e h) = (inl (inl (inl (inr (e, h)))))
  from_breaks i rule (array_length e h) = (inl (inl (inl (inl (inr (e, h))))))
  from_breaks i rule (contains_itself e h) = (inl (inl (inl (inl (inl (inr (e, h)))))))
  from_breaks i rule (sizeless_place e h) = (inl (inl (inl (inl (inl (inl (inr (e, h))))))))
  from_breaks i rule (unknown_type e h) = (inl (inl (inl (inl (inl (inl (inl (inr (e, h)))))))))
  from_breaks i rule (field_twice e h) = (inl (inl (inl (inl (inl (inl (inl (inl (inr (e, h))))))))))
  from_breaks i rule (variant_twice e h) = (inl (inl (inl (inl (inl (inl (inl (inl (inl (inr (e, h)))))))))))
  from_breaks i rule (name_twice e h) = (inl (inl (inl (inl (inl (inl (inl (inl (inl (inl (inr (e, h))))))))))))

  pub least_of_all : (best : Option (ℕ × ℕ)) → LeastFault To36 best → LeastFault (Breaks items width) best
  least_of_all best least = least_same To36 (Breaks items width) best to_breaks from_breaks least
