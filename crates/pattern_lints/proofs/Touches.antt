-- Two paths to two ranges that meet, one step further.
use Rattle.std.proofs.Common.{◌≡◌, ◌≢◌, ◌<◌, ℕ, suc, Bool, false, ◌==◌, List, [], ◌∷◌, length, slice_get, Some, refl, sym, ap, ◌∙◌, subst, arith}
use Rattle.std.proofs.lemmas.Option.{slice_get_within}
use Rattle.match_model.specs.Constructors.{MCtor, SingleCtor, PointCtor, LaterCtor, OtherTextCtor, WildCtor, OrCtor, VariantCtor, FlagCtor, NumbersCtor, TextCtor, RowCtor}
use Rattle.match_model.specs.Contexts.{Context}
use Rattle.match_model.specs.ContextLaws.{ValuesLaw, PartsLaw, parts_count}
use Rattle.match_model.specs.Values.{MValue}
use Rattle.match_model.specs.Numbers.{MRange}
use Rattle.match_model.specs.ArenaPatterns.{MDePat, ctor_of, subs_of}
use Rattle.match_model.specs.WellTyped.{IsTyped}
use Rattle.match_model.specs.Made.{IsForward}
use Rattle.pat_context.specs.Parts.{Tells}
use Rattle.std.proofs.lemmas.Bool.Decides.{nat_tests}
use Rattle.pattern_lints.specs.Along.{EndsAt, Touching, MeetTogether}
use Rattle.pattern_lints.proofs.AlongSteps.{end_meets, second_goes_on}
use Rattle.pattern_lints.proofs.Told.{tells_true, tells_false}
use Rattle.pattern_lints.specs.Meeting.{IsSharp, PiecesMeet, place_of}
use Rattle.pattern_lints.proofs.HeadParts.{some_same, place_below}
use Rattle.pattern_lints.proofs.PieceHeads.{typed_wild, typed_sharp, ctor_fits, sub_piece}
use Rattle.pattern_lints.proofs.PartsCommon.{settled}

-- the step of a path
pub record IsStepOf {T : Type 0} (p : MDePat T) (i : ℕ) : Type 0 where
  pub sub : MDePat T
  pub there : slice_get (subs_of p) i ≡ Some sub

pub first_step : {T : Type 0} (p : MDePat T) (i : ℕ) (rest : List ℕ) (q : MDePat T) (other : List ℕ) → Touching p (i ∷ rest) q other → IsStepOf p i
first_step p i rest q other x = record { sub = x.first.0; there = x.first.1 }

pub second_step : {T : Type 0} (p : MDePat T) (path : List ℕ) (q : MDePat T) (j : ℕ) (behind : List ℕ) → Touching p path q (j ∷ behind) → IsStepOf q j
second_step p path q j behind x = record { sub = x.second.0; there = x.second.1 }

pub first_within : {T : Type 0} (p : MDePat T) (i : ℕ) (rest : List ℕ) (q : MDePat T) (other : List ℕ) → Touching p (i ∷ rest) q other → i < length (subs_of p)
first_within p i rest q other x = slice_get_within (subs_of p) i x.first.0 x.first.1

pub second_within : {T : Type 0} (p : MDePat T) (path : List ℕ) (q : MDePat T) (j : ℕ) (behind : List ℕ) → Touching p path q (j ∷ behind) → j < length (subs_of q)
second_within p path q j behind x = slice_get_within (subs_of q) j x.second.0 x.second.1

pub touch_first : {T : Type 0} (p : MDePat T) (i : ℕ) (rest : List ℕ) (q : MDePat T) (other : List ℕ) (a : MDePat T) → slice_get (subs_of p) i ≡ Some a →
    Touching p (i ∷ rest) q other → Touching a rest q other
touch_first p i rest q other a ia x = record {
  first_at = x.first_at;
  second_at = x.second_at;
  first_range = x.first_range;
  second_range = x.second_range;
  number = x.number;
  first = subst (λ z. EndsAt z rest x.first_at x.first_range) (some_same x.first.0 a (sym x.first.1 ∙ ia)) x.first.2;
  second = x.second;
  meet = x.meet;
}

pub touch_second : {T : Type 0} (p : MDePat T) (path : List ℕ) (q : MDePat T) (j : ℕ) (behind : List ℕ) (b : MDePat T) → slice_get (subs_of q) j ≡ Some b →
    Touching p path q (j ∷ behind) → Touching p path b behind
touch_second p path q j behind b jb x = record {
  first_at = x.first_at;
  second_at = x.second_at;
  first_range = x.first_range;
  second_range = x.second_range;
  number = x.number;
  first = x.first;
  second = subst (λ z. EndsAt z behind x.second_at x.second_range) (some_same x.second.0 b (sym x.second.1 ∙ jb)) x.second.2;
  meet = x.meet;
}

-- a wildcard has no end and no step
end_sharp : {T : Type 0} (cx : Context T) (t : T) (p : MDePat T) (path : List ℕ) (o : ℕ) (r : MRange) → IsTyped cx t p → EndsAt p path o r → ctor_of p ≢ WildCtor
end_sharp cx t p [] o r h e w = let f : WildCtor ≡ NumbersCtor r = sym w ∙ e.0 in cc
end_sharp cx t p (i ∷ rest) o r h e w =
    let l : i < length (subs_of p) = slice_get_within (subs_of p) i e.0 e.1 in
    let z : length (subs_of p) ≡ 0 = ap length (typed_wild cx t p h w) in
    omega (arith, l, z)

sharp_of : (c : MCtor) → c ≢ WildCtor → c ≢ OrCtor → IsSharp c
sharp_of WildCtor w o = absurd (w refl)
sharp_of OrCtor w o = absurd (o refl)
sharp_of SingleCtor w o = tt
sharp_of PointCtor w o = tt
sharp_of LaterCtor w o = tt
sharp_of OtherTextCtor w o = tt
sharp_of (VariantCtor k) w o = tt
sharp_of (FlagCtor b) w o = tt
sharp_of (NumbersCtor r) w o = tt
sharp_of (TextCtor t) w o = tt
sharp_of (RowCtor r) w o = tt

pub first_sharp : {T : Type 0} (cx : Context T) (t : T) (p : MDePat T) (path : List ℕ) (q : MDePat T) (other : List ℕ) → IsTyped cx t p → Touching p path q other →
    ctor_of p ≢ OrCtor → IsSharp (ctor_of p)
first_sharp cx t p path q other h x o = sharp_of (ctor_of p) (end_sharp cx t p path x.first_at x.first_range h x.first) o

pub second_sharp : {T : Type 0} (cx : Context T) (t : T) (p : MDePat T) (path : List ℕ) (q : MDePat T) (other : List ℕ) → IsTyped cx t q → Touching p path q other →
    ctor_of q ≢ OrCtor → IsSharp (ctor_of q)
second_sharp cx t p path q other h x o = sharp_of (ctor_of q) (end_sharp cx t q other x.second_at x.second_range h x.second) o

-- an or-pattern is no end
pub first_goes : {T : Type 0} (p : MDePat T) (q : MDePat T) (other : List ℕ) → ctor_of p ≡ OrCtor → Touching p [] q other → ⊥
first_goes p q other or x = let f : OrCtor ≡ NumbersCtor x.first_range = sym or ∙ x.first.0 in cc

pub second_goes : {T : Type 0} (p : MDePat T) (path : List ℕ) (q : MDePat T) → ctor_of q ≡ OrCtor → Touching p path q [] → ⊥
second_goes p path q or x = let f : OrCtor ≡ NumbersCtor x.second_range = sym or ∙ x.second.0 in cc

module _ {T : Type 0} (IsType : T → Type 0) (IsValue : T → Bool → MValue → Type 0) (cx : Context T) (values : ValuesLaw IsType IsValue cx) (parts : PartsLaw IsType IsValue cx) where
  -- two patterns that stand at one part have its type
  pub same_part : (t : T) (sure : Bool) (p q : MDePat T) (i j : ℕ) → IsType t → IsTyped cx t p → IsTyped cx t q → IsSharp (ctor_of p) → IsSharp (ctor_of q) →
      i < length (subs_of p) → j < length (subs_of q) → PiecesMeet IsValue cx t sure (Some p) (Some q) (Some (i, j)) → cx.sub (ctor_of q) t j ≡ cx.sub (ctor_of p) t i
  same_part t sure p q i j d pt qt ps qs il jl m =
      let z = settled IsType IsValue cx values parts t sure (Some p) (Some q) (Some (i, j)) m in
      let n = parts_count cx t z.by in
      let x = typed_sharp cx t p pt ps in
      let y = typed_sharp cx t q qt qs in
      let fits = ctor_fits IsType IsValue cx parts t (ctor_of p) z.by (length (subs_of p)) d x.belongs x.written ps z.first x.count in
      let below = place_below (ctor_of p) (length (subs_of p)) n i fits ps il in
      sub_piece IsType IsValue cx parts t (ctor_of q) z.by j (place_of (ctor_of p) n i) d y.belongs y.written qs z.of_set z.second below (sym z.stand)
      ∙ sym (sub_piece IsType IsValue cx parts t (ctor_of p) z.by i (place_of (ctor_of p) n i) d x.belongs x.written ps z.of_set z.first below refl)

  -- at the end of the first path
  pub both_end : (t : T) (sure : Bool) (p q : MDePat T) (other : List ℕ) (b : Bool) → IsType t → IsTyped cx t p → IsTyped cx t q → IsForward (ctor_of p) → IsForward (ctor_of q) →
      IsSharp (ctor_of q) → Touching p [] q other → b ≡ (length other == 0) → Tells b (MeetTogether IsValue t sure p [] q other)
  both_end t sure p q [] b d pt qt pf qf s x e = tells_true b e (end_meets IsType IsValue cx values parts t sure p q d pt qt pf qf x)
  both_end t sure p q (j ∷ behind) b d pt qt pf qf s x e =
      tells_false b (e ∙ not_zero (length behind)) (λ m. second_goes_on IsType IsValue cx values parts t sure p q j behind d qt s m)
    where
      not_zero : (n : ℕ) → (suc n == 0) ≡ false
      not_zero n = grind (arith, nat_tests)
