-- A well-typed head that has a piece has as many heads for its parts.
use Rattle.std.proofs.Common.{◌≡◌, ◌≤◌, ℕ, zero, suc, ◌+◌, ◌-◌, Bool, true, false, ◌&&◌, List, [], ◌∷◌, ◌++◌, map, take, drop, length, Some, None, refl, sym, ap, ◌∙◌, arith, length-append}
use Rattle.std.specs.List.{list_all}
use Rattle.match_model.specs.Values.{MValue}
use Rattle.match_model.specs.Constructors.{FixedShape, LongerShape, MCtor, SingleCtor, PointCtor, LaterCtor, OtherTextCtor, WildCtor, OrCtor, VariantCtor, FlagCtor, NumbersCtor, TextCtor, RowCtor, belongs, has_piece}
use Rattle.match_model.specs.Contexts.{Context}
use Rattle.match_model.specs.ContextLaws.{PartsLaw}
use Rattle.match_model.specs.ArenaPatterns.{MDePat, de_pat, MDePats, MBound, de_pats_list}
use Rattle.match_model.specs.Rows.{Head, is_wild_ctor, wildcards, heads_of}
use Rattle.match_model.specs.WellTyped.{part_is_of, is_written, IsTyped, IsHeadTyped}
use Rattle.match_model.proofs.Basics.{both, untrue, nat_equal}
use Rattle.keyed_rows.specs.Dividing.{HasCount}
use Rattle.keyed_rows.proofs.PartsDone.{MeetsAll}
use Rattle.keyed_steps.specs.Fits.{IsPlain, HeadFits}
use Rattle.keyed_steps.proofs.Cutting.{take-length, drop-length}
use Rattle.keyed_steps.proofs.RowItems.{at-least}

-- heads for patterns
pub length-heads : {T : Type 0} (ps : List (MDePat T)) → length (map {B = Head T} Some ps) ≡ length ps
length-heads [] = refl
length-heads (p ∷ ps) = ap suc (length-heads ps)

wilds-length : (T : Type 0) (n : ℕ) → length {A = Head T} (wildcards n) ≡ n
wilds-length T zero = refl
wilds-length T (suc n) = ap suc (wilds-length T n)

-- what typing says of a constructor that is written
pub record IsWritten {T : Type 0} (cx : Context T) (t : T) (k : MCtor) (subs : MDePats T) : Type 0 where
  pub belong : belongs (cx.set_of t) k ≡ true
  pub count : length (de_pats_list subs) ≡ cx.arity k t

module _ {T : Type 0} (cx : Context T) (t ty : T) (uid at : ℕ) (subs : MDePats T) (binds : List MBound) where
  pub own-parts : (k : MCtor) → IsTyped cx t (de_pat k ty uid at subs binds) →
      list_all (λ b. part_is_of k b.part) binds ≡ true
  own-parts k h = h.1

  written-by : (k : MCtor) → (belongs (cx.set_of t) k && is_written k) ≡ true →
      length (de_pats_list subs) ≡ cx.arity k t → IsWritten cx t k subs
  written-by k b e = record { belong = (both (belongs (cx.set_of t) k) (is_written k) b).0; count = e }

  pub written : (k : MCtor) → IsPlain k → is_wild_ctor k ≡ false → IsTyped cx t (de_pat k ty uid at subs binds) →
      IsWritten cx t k subs
  written WildCtor p w h = untrue (sym w)
  written OrCtor p w h = elim p [ ]
  written SingleCtor p w h = written-by SingleCtor h.2.0 h.2.1
  written PointCtor p w h = written-by PointCtor h.2.0 h.2.1
  written LaterCtor p w h = written-by LaterCtor h.2.0 h.2.1
  written OtherTextCtor p w h = written-by OtherTextCtor h.2.0 h.2.1
  written (VariantCtor k) p w h = written-by (VariantCtor k) h.2.0 h.2.1
  written (FlagCtor k) p w h = written-by (FlagCtor k) h.2.0 h.2.1
  written (NumbersCtor k) p w h = written-by (NumbersCtor k) h.2.0 h.2.1
  written (TextCtor k) p w h = written-by (TextCtor k) h.2.0 h.2.1
  written (RowCtor k) p w h = written-by (RowCtor k) h.2.0 h.2.1

module _ {T : Type 0} (IsType : T → Type 0) (cx : Context T) (V : T → Bool → MValue → Type 0)
    (law : PartsLaw IsType V cx) (t : T) (is : IsType t) where
  abbrev Of : MCtor → Type 0
  Of k = belongs (cx.set_of t) k ≡ true

  -- a constructor that has the piece and all of its parts has as many
  arity-same : (k p : MCtor) → MeetsAll k → has_piece k p ≡ true → Of k → Of p → cx.arity k t ≡ cx.arity p t
  arity-same WildCtor p m h a b = elim m [ ]
  arity-same OrCtor p m h a b = elim m [ ]
  arity-same SingleCtor SingleCtor m h a b = refl
  arity-same SingleCtor _ m h a b = untrue h
  arity-same PointCtor PointCtor m h a b = refl
  arity-same PointCtor _ m h a b = untrue h
  arity-same LaterCtor LaterCtor m h a b = refl
  arity-same LaterCtor _ m h a b = untrue h
  arity-same OtherTextCtor OtherTextCtor m h a b = refl
  arity-same OtherTextCtor _ m h a b = untrue h
  arity-same (VariantCtor i) (VariantCtor j) m h a b = ap (λ n. cx.arity (VariantCtor n) t) (nat_equal i j h)
  arity-same (VariantCtor i) _ m h a b = untrue h
  arity-same (FlagCtor i) (FlagCtor j) m h a b = law.arity t (FlagCtor i) is a ∙ sym (law.arity t (FlagCtor j) is b)
  arity-same (FlagCtor i) _ m h a b = untrue h
  arity-same (NumbersCtor i) (NumbersCtor j) m h a b =
      law.arity t (NumbersCtor i) is a ∙ sym (law.arity t (NumbersCtor j) is b)
  arity-same (NumbersCtor i) _ m h a b = untrue h
  arity-same (TextCtor i) (TextCtor j) m h a b = law.arity t (TextCtor i) is a ∙ sym (law.arity t (TextCtor j) is b)
  arity-same (TextCtor i) _ m h a b = untrue h
  arity-same (RowCtor (FixedShape i)) (RowCtor (FixedShape j)) m h a b =
      law.arity t (RowCtor (FixedShape i)) is a ∙ (nat_equal i j h ∙ sym (law.arity t (RowCtor (FixedShape j)) is b))
  arity-same (RowCtor (FixedShape i)) (RowCtor (LongerShape f g)) m h a b = untrue h
  arity-same (RowCtor (FixedShape i)) _ m h a b = untrue h
  arity-same (RowCtor (LongerShape f g)) p m h a b = elim m [ ]

  -- the piece of a row with a rest has at least its items
  pub enough : (f b : ℕ) (p : MCtor) → has_piece (RowCtor (LongerShape f b)) p ≡ true → Of p → f + b ≤ cx.arity p t
  enough f b (RowCtor (FixedShape n)) h o =
      let l : f + b ≤ n = at-least (f + b) n h in let e : cx.arity (RowCtor (FixedShape n)) t ≡ n = law.arity t
      (RowCtor (FixedShape n)) is o in omega (arith, l, e)
  enough f b (RowCtor (LongerShape g c)) h o =
      let l : f + b ≤ g + c = at-least (f + b) (g + c) h in let e : cx.arity (RowCtor
      (LongerShape g c)) t ≡ g + c = law.arity t (RowCtor (LongerShape g c)) is o in omega (arith, l, e)
  enough f b _ h o = untrue h

  longer-count : (f b n : ℕ) (hs : List (Head T)) → length hs ≡ f + b → f + b ≤ n →
      length (take f hs ++ (wildcards (n - (f + b)) ++ drop f hs)) ≡ n
  longer-count f b n hs e l =
      let a : length (take f hs) ≡ f = take-length f hs (omega (arith, e)) in
      let d : length (drop f hs) + f ≡ length hs = drop-length f hs (omega (arith, e)) in
      let m : length {A = Head T} (wildcards (n - (f + b))) ≡ n - (f + b) = wilds-length T (n - (f + b)) in
      let p : length (take f hs ++ (wildcards (n - (f + b)) ++ drop f hs)) ≡ length (take f hs) + length (wildcards (n - (f + b)) ++ drop f hs) = length-append {A = Head T} (take f hs) (wildcards (n - (f + b)) ++ drop f hs) in
      let q : length (wildcards (n - (f + b)) ++ drop f hs) ≡ length {A = Head T} (wildcards (n - (f + b))) + length
      (drop f hs) = length-append {A = Head T} (wildcards (n - (f + b))) (drop f hs) in
      omega (arith, a, d, m, p, q, e, l)

  ctor-count : (k p : MCtor) (subs : MDePats T) → IsPlain k → (is_wild_ctor k ≡ false → IsWritten cx t k subs) →
      has_piece k p ≡ true → Of p → length (heads_of k (map {B = Head T} Some (de_pats_list subs))
      (cx.arity p t)) ≡ cx.arity p t
  ctor-count WildCtor p subs pl w h o = wilds-length T (cx.arity p t)
  ctor-count OrCtor p subs pl w h o = elim pl [ ]
  ctor-count (RowCtor (LongerShape f b)) p subs pl w h o =
      longer-count f b (cx.arity p t) (map Some (de_pats_list subs))
      (length-heads (de_pats_list subs) ∙ ((w refl).count ∙ law.arity t (RowCtor (LongerShape f b)) is
      (w refl).belong)) (enough f b p h o)
  ctor-count SingleCtor p subs pl w h o =
      length-heads (de_pats_list subs) ∙ ((w refl).count ∙ arity-same SingleCtor p tt h (w refl).belong o)
  ctor-count PointCtor p subs pl w h o =
      length-heads (de_pats_list subs) ∙ ((w refl).count ∙ arity-same PointCtor p tt h (w refl).belong o)
  ctor-count LaterCtor p subs pl w h o =
      length-heads (de_pats_list subs) ∙ ((w refl).count ∙ arity-same LaterCtor p tt h (w refl).belong o)
  ctor-count OtherTextCtor p subs pl w h o =
      length-heads (de_pats_list subs) ∙ ((w refl).count ∙ arity-same OtherTextCtor p tt h (w refl).belong o)
  ctor-count (VariantCtor k) p subs pl w h o =
      length-heads (de_pats_list subs) ∙ ((w refl).count ∙ arity-same (VariantCtor k) p tt h (w refl).belong o)
  ctor-count (FlagCtor k) p subs pl w h o =
      length-heads (de_pats_list subs) ∙ ((w refl).count ∙ arity-same (FlagCtor k) p tt h (w refl).belong o)
  ctor-count (NumbersCtor k) p subs pl w h o =
      length-heads (de_pats_list subs) ∙ ((w refl).count ∙ arity-same (NumbersCtor k) p tt h (w refl).belong o)
  ctor-count (TextCtor k) p subs pl w h o =
      length-heads (de_pats_list subs) ∙ ((w refl).count ∙ arity-same (TextCtor k) p tt h (w refl).belong o)
  ctor-count (RowCtor (FixedShape k)) p subs pl w h o =
      length-heads (de_pats_list subs) ∙ ((w refl).count ∙ arity-same (RowCtor (FixedShape k)) p tt h (w refl).belong o)

  pub head-count : (named : List (List ℕ)) (p : MCtor) (h : Head T) → Of p → IsHeadTyped cx t h → HeadFits named p h →
      HasCount p (cx.arity p t) h
  head-count named p None o ty f = tt
  head-count named p (Some (de_pat k u uid at subs binds)) o ty f =
      λ h. ctor-count k p subs f.plain (λ w. written cx t u uid at subs binds k f.plain w ty) h o
