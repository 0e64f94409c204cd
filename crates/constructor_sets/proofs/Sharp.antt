-- Heads that are no wildcards, and what follows of what they have.
use Rattle.std.proofs.Common.{◌≡◌, inl, inr, ℕ, zero, suc, ◌<◌, Bool, true, false, ◌&&◌, ◌||◌, nat_eq, nat_lt, List, [], ◌∷◌, map, length, get_or, refl, sym, ap, subst, ◌∙◌, arith, IsTrue, ◌+◌, ◌++◌, take}
use Rattle.std.specs.List.{All, AllPairs, list_any}
use Rattle.std.proofs.lemmas.Bool.Decides.{nat_tests}
use Rattle.std.proofs.lemmas.List.Elements.{All-head, All-tail, All-push}
use Rattle.std.proofs.lemmas.List.{map-append}
use Rattle.std.proofs.lemmas.Grind.{common_steps}
use Rattle.match_model.specs.Values.{MValue}
use Rattle.match_model.specs.Constructors.{MCtor, LaterCtor, WildCtor, VariantCtor, MSet, SingleSet, PointSet, FlagSet, TextSet, OpaqueSet, NothingSet, VariantSet, NumberSet, RowSet, belongs, has_piece}
use Rattle.match_model.specs.Contexts.{Context, Open}
use Rattle.match_model.specs.ContextLaws.{RangesAscend}
use Rattle.match_model.specs.WellTyped.{is_written}
use Rattle.match_model.specs.Rows.{is_wild_ctor}
use Rattle.match_model.proofs.Basics.{untrue, both, or_right, either}
use Rattle.range_split.proofs.Splits.{All-unmap}
use Rattle.pat_context.specs.Views.{plain_ctor}
use Rattle.pat_context.specs.declared.ctor.Ctor.{Ctor}
use Rattle.constructor_sets.specs.Columns.{is_head, writes, plain_ctors}
use Rattle.constructor_sets.specs.Spans.{Precedes}
use Rattle.constructor_sets.specs.Present.{is_sharp_head, AreFound}
use Rattle.constructor_sets.specs.Numbered.{AreNumbers}
use Rattle.constructor_sets.proofs.Rising.{rising_of, kept_rise}
use Rattle.constructor_sets.proofs.Numbering.{at_place}

abbrev pub AreSharp : MSet → List MCtor → Type 0
AreSharp set heads = All (λ h. IsTrue (is_sharp_head set h)) heads

pub sharp_heads : (set : MSet) (heads : List MCtor) → AreSharp set heads → All (λ h. IsTrue (is_head set h)) heads
sharp_heads set heads all = λ k d l. or_right (is_wild_ctor (get_or heads k d)) _ (all k d l)

pub sharp_written : (set : MSet) (heads : List Ctor) → AreSharp set (plain_ctors heads) → All (λ h. IsTrue (is_written (plain_ctor h))) heads
sharp_written set heads all = λ k d l. (both _ _ (All-unmap (λ h. IsTrue (is_sharp_head set h)) plain_ctor heads all k d l)).1

-- the pieces that are found are in order
pub found_rise : {T : Type 0} (IsValue : T → Bool → MValue → Type 0) (cx : Context T) (o : Open T) (heads ctors : List MCtor) (missing : Bool) (gaps : List MCtor) → RangesAscend (cx.set_of o.type) →
    AreFound IsValue cx o heads ctors missing gaps → AllPairs Precedes ctors
found_rise IsValue cx o heads ctors missing gaps asc f =
    subst (AllPairs Precedes) (sym f.present) (kept_rise f.pieces (rising_of (cx.set_of o.type) heads (map (λ p. p.0) f.pieces) asc f.split.are.listed))

-- such a head has a piece where it writes it
pub sharp_writes : (set : MSet) (heads : List MCtor) (p : MCtor) → AreSharp set heads → list_any (writes p) heads ≡ list_any (λ h. has_piece h p) heads
sharp_writes set [] p all = refl
sharp_writes set (h ∷ hs) p all =
    ap (λ b. b || list_any (writes p) hs) (one set h p (All-head (λ h. IsTrue (is_sharp_head set h)) h hs all))
    ∙ ap (λ b. has_piece h p || b) (sharp_writes set hs p (All-tail (λ h. IsTrue (is_sharp_head set h)) h hs all))
  where
    one : (set : MSet) (h p : MCtor) → is_sharp_head set h ≡ true → writes p h ≡ has_piece h p
    one set WildCtor p e = untrue (sym (wild set) ∙ (both (belongs set WildCtor) true e).0)
      where
        wild : (set : MSet) → belongs set WildCtor ≡ false
        wild (VariantSet count later) = refl
        wild SingleSet = refl
        wild PointSet = refl
        wild FlagSet = refl
        wild TextSet = refl
        wild OpaqueSet = refl
        wild NothingSet = refl
        wild (NumberSet first second) = refl
        wild (RowSet len) = refl
    one set _ p e = refl

-- variants that stand in a column are below the count

variant_below : (count : ℕ) (later : Bool) (n : ℕ) (h : MCtor) → is_sharp_head (VariantSet count later) h ≡ true → writes (VariantCtor n) h ≡ true → n < count
variant_below count later n (VariantCtor j) s w = below j n count (both (nat_lt j count) true s).0 w
  where
    below : (j n count : ℕ) → nat_lt j count ≡ true → nat_eq j n ≡ true → n < count
    below j n count l e = grind (arith, nat_tests)
variant_below count later n WildCtor s w = untrue w
variant_below count later n _ s w = untrue w

pub written_below : (count : ℕ) (later : Bool) (heads : List MCtor) (n : ℕ) → AreSharp (VariantSet count later) heads → list_any (writes (VariantCtor n)) heads ≡ true → n < count
written_below count later [] n all e = untrue e
written_below count later (h ∷ hs) n all e =
    elim (either (writes (VariantCtor n) h) (list_any (writes (VariantCtor n)) hs) e) [
      | inl f ↦ variant_below count later n h (All-head (λ h. IsTrue (is_sharp_head (VariantSet count later) h)) h hs all) f
      | inr f ↦ written_below count later hs n (All-tail (λ h. IsTrue (is_sharp_head (VariantSet count later) h)) h hs all) f
    ]

pub numbers_below : (count : ℕ) (later : Bool) (heads : List MCtor) (numbers : List ℕ) → AreSharp (VariantSet count later) heads → AreNumbers heads numbers → All (λ k. k < count) numbers
numbers_below count later heads numbers all n = λ k d l.
    let at : get_or numbers k 0 ≡ get_or numbers k d = default numbers k d l in
    written_below count later heads (get_or numbers k d) all (sym (n.each (get_or numbers k d)) ∙ at_place numbers (get_or numbers k d) k l at)
  where
    default : (xs : List ℕ) (k d : ℕ) → k < length xs → get_or xs k 0 ≡ get_or xs k d
    default [] k d l = absurd (omega arith)
    default (x ∷ xs) zero d l = refl
    default (x ∷ xs) (suc k) d l = default xs k d (omega arith)

-- no head has the later variants
pub later_unwritten : (count : ℕ) (later : Bool) (heads : List MCtor) → AreSharp (VariantSet count later) heads → list_any (writes LaterCtor) heads ≡ false
later_unwritten count later [] all = refl
later_unwritten count later (h ∷ hs) all =
    ap (λ b. b || list_any (writes LaterCtor) hs) (one h (All-head (λ h. IsTrue (is_sharp_head (VariantSet count later) h)) h hs all))
    ∙ later_unwritten count later hs (All-tail (λ h. IsTrue (is_sharp_head (VariantSet count later) h)) h hs all)
  where
    one : (h : MCtor) → is_sharp_head (VariantSet count later) h ≡ true → writes LaterCtor h ≡ false
    one LaterCtor e = untrue (sym (neither later) ∙ e)
      where
        neither : (b : Bool) → (b && false) ≡ false
        neither true = refl
        neither false = refl
    one _ e = refl

-- head by head
pub sharp_more : (set : MSet) (heads : List Ctor) (i : ℕ) (x : Ctor) → i < length heads → x ≡ get_or heads i x → AreSharp set (plain_ctors (take i heads)) → is_sharp_head set (plain_ctor x) ≡ true →
    AreSharp set (plain_ctors (take (i + 1) heads))
sharp_more set heads i x l e all s =
    let grown : take (i + 1) heads ≡ take i heads ++ x ∷ [] = grind (arith, common_steps) in
    subst (AreSharp set) (sym (ap plain_ctors grown ∙ map-append plain_ctor (take i heads) (x ∷ [])))
    (All-push (λ h. IsTrue (is_sharp_head set h)) (plain_ctors (take i heads)) (plain_ctor x) all s)
