-- Of each function that breaks no rule something is found.
use Rattle.std.proofs.Common.{◌≡◌, ℕ, zero, suc, ◌+◌, ◌<◌, Bool, ◌&&◌, List, [], ◌∷◌, ◌++◌, length, map, Some, slice_get, IsTrue, refl, sym, ap, subst, ◌∙◌, arith}
use Rattle.std.specs.List.{Contains}
use Rattle.std.proofs.lemmas.Option.{slice_get_within, get_or_from_slice_get}
use Rattle.match_model.specs.declared.Mode.TheVariants.{Move}
use Rattle.match_model.specs.Types.{MType}
use Rattle.match_model.specs.Declarations.{MProgram}
use Rattle.match_model.specs.Constructors.{MCtor, NumbersCtor, WildCtor, OrCtor, belongs}
use Rattle.match_model.specs.ContextViews.{View, Passing}
use Rattle.match_model.specs.Lists.{Every}
use Rattle.match_model.specs.RustTypes.{rust_context, rust_arity, is_type, IsSoundProgram, RustValue}
use Rattle.match_model.specs.Emptiness.{IsRustType}
use Rattle.match_model.specs.ArenaPatterns.{MDePat, de_pat, MDePats, no_de_pats, more_de_pats, de_pats_list, MDeArm, MDeMatch}
use Rattle.match_model.specs.Numbers.{MRange}
use Rattle.match_model.specs.Made.{IsMade, IsMadeRange, IsMadePat, AreMadePats, AreArmsMade}
use Rattle.match_model.specs.WellTyped.{IsTyped, AreAllTyped, ArePartsTyped, HasNone, ByCtor, is_written}
use Rattle.match_model.specs.Unreachable.{Entry}
use Rattle.match_model.specs.Witness.{MWitness}
use Rattle.match_model.proofs.RustValues.{rust_values_law}
use Rattle.match_model.proofs.RustParts.{rust_parts}
use Rattle.match_model.proofs.Decided.{sure_marks}
use Rattle.match_model.proofs.Marked.{rust_empty, rust_unsure}
use Rattle.decl_syntax.specs.Items.{ArmTree}
use Rattle.decl_syntax.specs.Functions.{FunctionTree}
use Rattle.pattern_rules.specs.Settings.{Setting, program}
use Rattle.pattern_rules.specs.Nodes.{offset_of}
use Rattle.pattern_rules.specs.Faults.{scrutinee_type}
use Rattle.pattern_rules.specs.Resolved.{resolved}
use Rattle.pattern_rules.specs.ArenaForms.{all_within, all_below}
use Rattle.pattern_rules.specs.Shown.{settled}
use Rattle.pattern_rules.specs.ShownMatches.{IsSoundArm, elaborated_arm, IsShownArm, IsShownMatch}
use Rattle.pattern_rules.specs.Verdicts.{IsVerdictOn}
use Rattle.pattern_rules.proofs.SameTypes.{both_left}
use Rattle.pattern_laws.specs.JudgedLaws.{by_offset, IsEngineMatch, SomeVerdict}
use Rattle.pattern_laws.specs.NumberedMatch.{size, renumbered, arms_renumbered, numbered_match}
use Rattle.pattern_laws.proofs.ArmsKept.{arms_typed, arm_made}
use Rattle.pattern_laws.proofs.Everywhere.{RangeHolds}
use Rattle.pattern_laws.proofs.Everywhere as everywhere
use Rattle.pattern_laws.proofs.TypedShown.{sub_is_type}
use Rattle.pattern_laws.proofs.ParsedSound.{every_of}
use Rattle.pattern_laws.proofs.Renumbered.{uids_differ, arms_differ, settled_same, at_same, arms_made, Everywhere, every_both, types_same}
use Rattle.pattern_laws.proofs.PlainUids.{standing_shown}
use Rattle.pattern_laws.proofs.SomeJudged.{some_judged}
use Rattle.pattern_laws.proofs.JudgedShown.{shown_typed, judged_shown}

-- what holds of what is among them holds of each
every_from : {A : Type 0} (P : A → Type 0) (xs : List A) → ((x : A) → Contains xs x → P x) → Every P xs
every_from P [] f = tt
every_from P (x ∷ xs) f = (
  f x (0, omega arith, refl),
  every_from P xs
      (λ y (k, l, e). f y (suc k, omega (arith, l), e)),
)

contains_at : {A : Type 0} (xs : List A) (k : ℕ) (x : A) → slice_get xs k ≡ Some x → Contains xs x
contains_at xs k x e = (k, slice_get_within xs k x e, get_or_from_slice_get xs k x x e)

-- ---- types of all patterns within

from_ctor : (c : MCtor) (A B C X : Type 0) → ByCtor c A B C → (A → X) → (B → X) → (C → X) → X
from_ctor WildCtor A B C X h f g k = f h
from_ctor OrCtor A B C X h f g k = g h
from_ctor c A B C X h f g k = k h

module _ (rust : MProgram) (sound : IsSoundProgram rust) where
  -- the types of the program seen as themselves
  same_view : View (λ (t : MType). t) (Passing (is_type rust)) (Passing (is_type rust)) (rust_context rust)
      (rust_context rust)
  same_view =
      let law = rust_parts rust sound in
      record {
        set = λ s. refl;
        arity = λ c s. refl;
        sub = λ c s i. refl;
        is_type = λ s h. h;
        part_type = λ s e i d h l. law.types s e i d h l;
        item_type = λ s r i d h. law.item_types s r i d h;
        one = λ a b d h e. e;
      }

  abbrev AreTypes : List (MDePat MType) → Type 0
  AreTypes qs = Everywhere (λ t. IsTrue (is_type rust t)) qs

  none_below : (ps : MDePats MType) → HasNone ps → AreTypes (all_below ps)
  none_below no_de_pats h = tt
  none_below (more_de_pats p ps) h = absurd h

  mutual
    typed_types : (p : MDePat MType) (t : MType) → IsTrue (is_type rust t) → IsTyped (rust_context rust) t p →
        AreTypes (all_within p)
    typed_types (de_pat c w uid at subs binds) t d h = (
      subst (λ u. IsTrue (is_type rust u)) (sym h.0) d,
      from_ctor c (HasNone subs) (AreAllTyped (rust_context rust) t subs)
          (IsTrue (belongs ((rust_context rust).set_of t) c && is_written c)
          × (length (de_pats_list subs) ≡ rust_arity rust c t)
          × ArePartsTyped (rust_context rust) ((rust_context rust).sub c t) 0 subs) (AreTypes (all_below subs)) h.2
          (none_below subs) (λ k. all_typed_types subs t d k)
          (λ k. parts_typed_types subs ((rust_context rust).sub c t) 0 (length (de_pats_list subs))
          (λ i l. sub_is_type rust (λ u. u) (is_type rust) (rust_context rust) same_view c t i d
          (both_left (belongs ((rust_context rust).set_of t) c) (is_written c) k.0) (subst (λ n. i < n) k.1 l))
          (omega arith) k.2),
    )

    all_typed_types : (ps : MDePats MType) (t : MType) → IsTrue (is_type rust t) →
        AreAllTyped (rust_context rust) t ps → AreTypes (all_below ps)
    all_typed_types no_de_pats t d h = tt
    all_typed_types (more_de_pats p ps) t d h =
        every_both (λ u. IsTrue (is_type rust u)) (all_within p) (all_below ps) (typed_types p t d h.0)
        (all_typed_types ps t d h.1)

    parts_typed_types : (ps : MDePats MType) (ts : ℕ → MType) (i n : ℕ) →
        ((j : ℕ) → j < n → IsTrue (is_type rust (ts j))) →
        i + length (de_pats_list ps) ≡ n → ArePartsTyped (rust_context rust) ts i ps → AreTypes (all_below ps)
    parts_typed_types no_de_pats ts i n f e h = tt
    parts_typed_types (more_de_pats p ps) ts i n f e h =
        every_both (λ u. IsTrue (is_type rust u)) (all_within p) (all_below ps)
        (typed_types p (ts i) (f i (omega (arith, e))) h.0)
        (parts_typed_types ps ts (suc i) n f (omega (arith, e)) h.1)

-- ---- ranges

ctor_made : (c : MCtor) → ((r : MRange) → c ≡ NumbersCtor r → IsMadeRange r) → IsMade c
ctor_made (NumbersCtor r) f = f r refl
ctor_made c f = tt

abbrev RangesHeld : List (MDePat MType) → Type 0
RangesHeld qs = everywhere.Every (RangeHolds (λ r t. IsMadeRange r)) qs

held_first : (xs ys : List (MDePat MType)) → RangesHeld (xs ++ ys) → RangesHeld xs
held_first [] ys h = tt
held_first (x ∷ xs) ys h = (h.0, held_first xs ys h.1)

held_second : (xs ys : List (MDePat MType)) → RangesHeld (xs ++ ys) → RangesHeld ys
held_second [] ys h = h
held_second (x ∷ xs) ys h = held_second xs ys h.1

mutual
  pat_made : (p : MDePat MType) → RangesHeld (all_within p) → IsMadePat p
  pat_made (de_pat c t uid at subs binds) h = (ctor_made c h.0, pats_made subs h.1)

  pats_made : (ps : MDePats MType) → RangesHeld (all_below ps) → AreMadePats ps
  pats_made no_de_pats h = tt
  pats_made (more_de_pats p ps) h = (
    pat_made p (held_first (all_within p) (all_below ps) h),
    pats_made ps
        (held_second (all_within p) (all_below ps) h),
  )

-- ---- the match by constructors, with uids of its own

module _ (s : Setting) (f : FunctionTree) (sound : IsSoundProgram (program s))
    (type_is : IsTrue (is_type (program s) (scrutinee_type s f)))
    (arms : (a : ArmTree) → Contains f.arms a → IsSoundArm s f a) where
  abbrev plain_arm : ArmTree → MDeArm MType
  plain_arm a = record { pat = elaborated_arm s f a; guarded = a.guarded }

  abbrev whole : MDeMatch MType
  whole = numbered_match s f

  same_count : (n : ℕ) (bs : List ArmTree) → length (arms_renumbered n (map plain_arm bs)) ≡ length bs
  same_count n [] = refl
  same_count n (a ∷ bs) = ap suc (same_count (n + size (elaborated_arm s f a)) bs)

  arm_shown : (n : ℕ) (a : ArmTree) → IsSoundArm s f a →
      IsShownArm (λ t. t) s f a (record { pat = renumbered n (elaborated_arm s f a); guarded = a.guarded })
  arm_shown n a h = record {
    sound = h;
    guard = refl;
    pattern = ap (λ u. settled (λ t. t) u (renumbered n (elaborated_arm s f a))) (at_same n (elaborated_arm s f a))
        ∙ (settled_same (λ t. t) _ n (elaborated_arm s f a)
        ∙ standing_shown (program s) (offset_of a.pattern) (resolved s (scrutinee_type s f) a.pattern)
        (scrutinee_type s f) Move);
    uids = uids_differ n (elaborated_arm s f a);
  }

  shown_at : (n : ℕ) (bs : List ArmTree) (j : ℕ) (a : ArmTree) (d : MDeArm MType) → slice_get bs j ≡ Some a →
      slice_get (arms_renumbered n (map plain_arm bs)) j ≡ Some d → IsSoundArm s f a → IsShownArm (λ t. t) s f a d
  shown_at n [] j a d e g h = absurd cc
  shown_at n (b ∷ bs) zero a d e g h =
      let same : b ≡ a = cc in
      let there : record { pat = renumbered n (elaborated_arm s f b); guarded = b.guarded } ≡ d = cc in
      subst (λ x. IsShownArm (λ t. t) s f a x) there
      (subst (λ x. IsShownArm (λ t. t) s f a
      (record { pat = renumbered n (elaborated_arm s f x); guarded = x.guarded })) (sym same) (arm_shown n a h))
  shown_at n (b ∷ bs) (suc j) a d e g h = shown_at (n + size (elaborated_arm s f b)) bs j a d e g h

  whole_shown : IsShownMatch (λ t. t) s f whole
  whole_shown = record {
    type_is = refl;
    sure_is = refl;
    count = same_count 0 f.arms;
    arms = λ j a d e g. shown_at 0 f.arms j a d e g (arms a (contains_at f.arms j a e));
  }

  arms_types : (n : ℕ) (bs : List ArmTree) → Every (IsSoundArm s f) bs →
      Every (λ d. Everywhere (λ t. IsTrue (is_type (program s) t)) (all_within d.pat))
      (arms_renumbered n (map plain_arm bs))
  arms_types n [] h = tt
  arms_types n (a ∷ bs) h = (
    types_same (λ t. IsTrue (is_type (program s) t)) n (elaborated_arm s f a)
        (typed_types (program s) sound (elaborated_arm s f a) (scrutinee_type s f) type_is (arms_typed s f a h.0)),
    arms_types (n + size (elaborated_arm s f a)) bs h.1,
  )

  plain_made : (bs : List ArmTree) → Every (IsSoundArm s f) bs → AreArmsMade (map plain_arm bs)
  plain_made [] h = tt
  plain_made (a ∷ bs) h = (pat_made (elaborated_arm s f a) (arm_made s f a h.0), plain_made bs h.1)

  pub engine : IsEngineMatch (λ t. t) (is_type (program s)) (rust_context (program s)) s f whole
  engine = record {
    sound = sound;
    view = same_view (program s) sound;
    shown = whole_shown;
    type_is = type_is;
    types = λ d c. every_of (λ x. Everywhere (λ t. IsTrue (is_type (program s) t)) (all_within x.pat)) whole.arms
        (arms_types 0 f.arms (every_from (IsSoundArm s f) f.arms arms)) d c;
    uids = arms_differ 0 (map plain_arm f.arms);
    made = arms_made 0 (map plain_arm f.arms) (plain_made f.arms (every_from (IsSoundArm s f) f.arms arms));
  }

  found : (exhaustive : Bool) × (unreachable : List Entry) × (witnesses : List MWitness)
      × IsVerdictOn s f exhaustive unreachable witnesses
  found =
      let rust = program s in
      let marks = sure_marks rust sound in
      let told = some_judged (IsRustType rust) (RustValue rust) (rust_context rust) (rust_values_law rust)
      (rust_parts rust sound) _ _
      (rust_empty rust marks.0 sound marks.1) (rust_unsure rust sound) whole
      (shown_typed MType (λ t. t) (is_type rust) (rust_context rust) s f whole engine) engine.made in (
        told.0,
        map by_offset told.1,
        told.2,
        judged_shown MType (λ t. t) (is_type rust) (rust_context rust) s f whole told.0 told.1 told.2 engine told.3,
      )

pub some_verdict : SomeVerdict
some_verdict s f sound type_is arms = found s f sound type_is arms
