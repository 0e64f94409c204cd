-- What stands in place of a head is well typed and made of the same constructors; alternatives are no or-patterns.
use Rattle.std.proofs.Common.{◌≡◌, inl, inr, ℕ, zero, suc, ◌+◌, ◌-◌, Bool, true, false, List, [], ◌∷◌, ◌++◌, map, take, drop, length, cond, Some, None, refl, sym, ap, subst}
use Rattle.match_model.specs.Values.{MValue}
use Rattle.match_model.specs.Constructors.{FixedShape, LongerShape, MCtor, SingleCtor, PointCtor, LaterCtor, OtherTextCtor, WildCtor, OrCtor, VariantCtor, FlagCtor, NumbersCtor, TextCtor, RowCtor, belongs, has_piece}
use Rattle.match_model.specs.Contexts.{Context}
use Rattle.match_model.specs.ContextLaws.{PartsLaw}
use Rattle.match_model.specs.ArenaPatterns.{MBound, MDePat, de_pat, MDePats, no_de_pats, more_de_pats, de_pats_list, uid_of}
use Rattle.match_model.specs.Rows.{Head, is_wild, Choice, choices_of, all_choices_of, choices_by, choice_among, with_binds, wildcards, heads_of}
use Rattle.match_model.specs.Matrices.{MColumn, part_columns}
use Rattle.match_model.specs.WellTyped.{IsTyped, AreAllTyped, IsHeadTyped, AreHeadsTyped}
use Rattle.match_model.specs.Lists.{Every, Among}
use Rattle.match_model.specs.Steps.{Replacement, expand_head, specialise_head, default_head, own_binds}
use Rattle.keyed_rows.proofs.Lists.{every-append, every-map}
use Rattle.keyed_rows.proofs.Parting.{among-map, among-every}
use Rattle.keyed_steps.specs.Fits.{IsPlain, HeadFits}
use Rattle.match_model.specs.Made.{IsMadePat, AreMadePats}
use Rattle.keyed_steps.specs.Good.{IsMadeHead, IsPlainHead}
use Rattle.keyed_steps.proofs.HeadCounts.{IsWritten, written, head-count}
use Rattle.keyed_steps.proofs.PartTypes.{TypedFrom, piece-typed, meets-from, ends-from, from-wild}

module _ {T : Type 0} (cx : Context T) where
  -- a choice: typed as the pattern, of its constructors, and no or-pattern
  pub record IsGoodChoice (t : T) (c : Choice T) : Type 0 where
    pub typed : IsTyped cx t c.pat
    pub made : IsMadePat c.pat
    pub plain : IsPlainHead (Some c.pat)

  through-good : (t : T) (subs : MDePats T) (uid : ℕ) (c : Choice T) → IsGoodChoice t c →
      IsGoodChoice t (choice_among subs uid c)
  through-good t no_de_pats uid c g = g
  through-good t (more_de_pats p no_de_pats) uid c g = g
  through-good t (more_de_pats p (more_de_pats q qs)) uid c g =
      record { typed = g.typed; made = g.made; plain = g.plain }

  mutual
    choices-good : (t : T) (p : MDePat T) → IsTyped cx t p → IsMadePat p → Every (IsGoodChoice t) (choices_of p)
    choices-good t (de_pat c u uid at subs binds) h m =
        go c h m (λ k. all-good t (choice_among subs) (through-good t subs) subs k m.1)
      where
        go : (c : MCtor) → IsTyped cx t (de_pat c u uid at subs binds) → IsMadePat (de_pat c u uid at subs binds) →
            (AreAllTyped cx t subs → Every (IsGoodChoice t) (all_choices_of (choice_among subs) subs)) →
            Every (IsGoodChoice t) (choices_by c (map (with_binds binds) (all_choices_of (choice_among subs) subs))
            (record { pat = de_pat c u uid at subs binds; chosen = []; binds = [] } ∷ []))
        go OrCtor h m f =
            every-map (IsGoodChoice t) (IsGoodChoice t) (with_binds binds) (all_choices_of (choice_among subs) subs)
            (λ d g. record { typed = g.typed; made = g.made; plain = g.plain }) (f h.2)
        go _ h m f = (record { typed = h; made = m; plain = tt }, tt)

    all-good : (t : T) (choose : ℕ → Choice T → Choice T) → ((u : ℕ) (d : Choice T) → IsGoodChoice t d → IsGoodChoice t
        (choose u d)) → (ps : MDePats T) → AreAllTyped cx t ps → AreMadePats ps →
        Every (IsGoodChoice t) (all_choices_of choose ps)
    all-good t choose k no_de_pats h m = tt
    all-good t choose k (more_de_pats p ps) h m =
        every-append (IsGoodChoice t) (map (choose (uid_of p)) (choices_of p)) (all_choices_of choose ps)
        (every-map (IsGoodChoice t) (IsGoodChoice t) (choose (uid_of p)) (choices_of p) (k (uid_of p))
        (choices-good t p h.0 m.0)) (all-good t choose k ps h.1 m.1)

  -- an alternative
  pub record IsOneHead (t : T) (y : Replacement T) : Type 0 where
    pub head : Head T
    pub only : y.heads ≡ head ∷ []
    pub typed : IsHeadTyped cx t head
    pub made : IsMadeHead head
    pub plain : IsPlainHead head

  pub expand-after : (t : T) (h : Head T) (y : Replacement T) → IsHeadTyped cx t h → IsMadeHead h →
      Among y (expand_head h) → IsOneHead t y
  expand-after t None y a m (inl e) =
      record { head = None; only = ap (λ x. x.heads) e; typed = tt; made = tt; plain = tt }
  expand-after t None y a m (inr e) = absurd e
  expand-after t (Some p) y a m j =
      let k = among-map (λ c. record { heads = Some c.pat ∷ []; chosen = c.chosen; binds = c.binds })
      (choices_of p) y j in
      let g : IsGoodChoice t k.0 = among-every (IsGoodChoice t) (choices_of p) k.0 (choices-good t p a m) k.1 in
      record { head = Some k.0.pat; only = ap (λ x. x.heads) k.2; typed = g.typed; made = g.made; plain = g.plain }

  pub drop-after : (h : Head T) (y : Replacement T) → Among y (default_head h) → y.heads ≡ []
  drop-after h y j = go (is_wild h) refl
    where
      Y : Replacement T
      Y = record { heads = []; chosen = []; binds = own_binds h }

      go : (b : Bool) → is_wild h ≡ b → y.heads ≡ []
      go true q =
          elim (subst (λ x. Among y (cond x (Y ∷ []) [])) q j) [ inl e ↦ ap (λ x. x.heads) e | inr e ↦ absurd e ]
      go false q = absurd (subst (λ x. Among y (cond x (Y ∷ []) [])) q j)

  -- heads of parts are made
  wild-made : (m : ℕ) (hs : List (Head T)) → Every (IsMadeHead) hs → Every (IsMadeHead) (wildcards m ++ hs)
  wild-made zero hs h = h
  wild-made (suc m) hs h = (tt, wild-made m hs h)

  only-wild-made : (m : ℕ) → Every (IsMadeHead {T = T}) (wildcards m)
  only-wild-made zero = tt
  only-wild-made (suc m) = (tt, only-wild-made m)

  put-made : (f m : ℕ) (hs : List (Head T)) → Every (IsMadeHead) hs →
      Every (IsMadeHead) (take f hs ++ (wildcards m ++ drop f hs))
  put-made zero m hs h = wild-made m hs h
  put-made (suc f) m [] h = wild-made m [] h
  put-made (suc f) m (x ∷ hs) h = (h.0, put-made f m hs h.1)

  subs-made : (ps : MDePats T) → AreMadePats ps → Every (IsMadeHead) (map Some (de_pats_list ps))
  subs-made no_de_pats h = tt
  subs-made (more_de_pats p ps) h = (h.0, subs-made ps h.1)

  heads-made : (k : MCtor) (n : ℕ) (subs : MDePats T) → AreMadePats subs →
      Every (IsMadeHead) (heads_of k (map Some (de_pats_list subs)) n)
  heads-made (RowCtor (LongerShape f b)) n subs h =
      put-made f (n - (f + b)) (map Some (de_pats_list subs)) (subs-made subs h)
  heads-made WildCtor n subs h = only-wild-made n
  heads-made (RowCtor (FixedShape k)) n subs h = subs-made subs h
  heads-made SingleCtor n subs h = subs-made subs h
  heads-made PointCtor n subs h = subs-made subs h
  heads-made LaterCtor n subs h = subs-made subs h
  heads-made OtherTextCtor n subs h = subs-made subs h
  heads-made OrCtor n subs h = subs-made subs h
  heads-made (VariantCtor k) n subs h = subs-made subs h
  heads-made (FlagCtor k) n subs h = subs-made subs h
  heads-made (NumbersCtor k) n subs h = subs-made subs h
  heads-made (TextCtor k) n subs h = subs-made subs h

  pub piece-made : (p : MCtor) (n : ℕ) (h : Head T) (y : Replacement T) → IsMadeHead h →
      Among y (specialise_head p n h) → Every (IsMadeHead) y.heads
  piece-made p n None y m (inl e) = subst (λ (x : Replacement T). Every (IsMadeHead) x.heads) (sym e) (only-wild-made n)
  piece-made p n None y m (inr e) = absurd e
  piece-made p n (Some (de_pat k u uid at subs binds)) y m j = go (has_piece k p) refl
    where
      Y : Replacement T
      Y = record { heads = heads_of k (map Some (de_pats_list subs)) n; chosen = []; binds = binds }

      go : (b : Bool) → has_piece k p ≡ b → Every (IsMadeHead) y.heads
      go true q =
          elim (subst (λ x. Among y (cond x (Y ∷ []) [])) q j) [
            | inl e ↦ subst
                (λ (x : Replacement T). Every (IsMadeHead) x.heads) (sym e) (heads-made k n subs m.1)
            | inr e ↦ absurd e
          ]
      go false q = absurd (subst (λ x. Among y (cond x (Y ∷ []) [])) q j)

-- the heads of the parts are well typed at the piece's columns
module _ {T : Type 0} (IsType : T → Type 0) (cx : Context T) (V : T → Bool → MValue → Type 0)
    (law : PartsLaw IsType V cx) (c : MColumn T) (is : IsType c.type) (named : List (List ℕ)) (p : MCtor)
    (of : belongs (cx.set_of c.type) p ≡ true) where
  ctor-from : (k : MCtor) (ty : T) (uid at : ℕ) (subs : MDePats T) (binds : List MBound) → IsPlain k →
      IsTyped cx c.type (de_pat k ty uid at subs binds) → has_piece k p ≡ true →
      length (heads_of k (map {B = Head T} Some (de_pats_list subs)) (cx.arity p c.type)) ≡ cx.arity p c.type →
      TypedFrom IsType cx V law c.type is (cx.sub p c.type) 0 (heads_of k (map Some (de_pats_list subs))
      (cx.arity p c.type))
  ctor-from WildCtor ty uid at subs binds pl t h l =
      from-wild IsType cx V law c.type is (cx.sub p c.type) 0 (cx.arity p c.type)
  ctor-from OrCtor ty uid at subs binds pl t h l = elim pl [ ]
  ctor-from (RowCtor (LongerShape f b)) ty uid at subs binds pl t h l =
      let w : IsWritten cx c.type (RowCtor (LongerShape f b)) subs = written cx c.type ty uid at subs binds
      (RowCtor (LongerShape f b)) pl refl t in
      ends-from IsType cx V law c.type is f b p subs (cx.arity p c.type) w.belong t.2.2 h of
  ctor-from (RowCtor (FixedShape n)) ty uid at subs binds pl t h l =
      meets-from IsType cx V law c.type is (RowCtor (FixedShape n)) p subs tt
      (written cx c.type ty uid at subs binds (RowCtor (FixedShape n)) pl refl t) t.2.2 h of l
  ctor-from SingleCtor ty uid at subs binds pl t h l =
      meets-from IsType cx V law c.type is SingleCtor p subs tt
      (written cx c.type ty uid at subs binds SingleCtor pl refl t) t.2.2 h of l
  ctor-from PointCtor ty uid at subs binds pl t h l =
      meets-from IsType cx V law c.type is PointCtor p subs tt
      (written cx c.type ty uid at subs binds PointCtor pl refl t) t.2.2 h of l
  ctor-from LaterCtor ty uid at subs binds pl t h l =
      meets-from IsType cx V law c.type is LaterCtor p subs tt
      (written cx c.type ty uid at subs binds LaterCtor pl refl t) t.2.2 h of l
  ctor-from OtherTextCtor ty uid at subs binds pl t h l =
      meets-from IsType cx V law c.type is OtherTextCtor p subs tt
      (written cx c.type ty uid at subs binds OtherTextCtor pl refl t) t.2.2 h of l
  ctor-from (VariantCtor k) ty uid at subs binds pl t h l =
      meets-from IsType cx V law c.type is (VariantCtor k) p subs tt
      (written cx c.type ty uid at subs binds (VariantCtor k) pl refl t) t.2.2 h of l
  ctor-from (FlagCtor k) ty uid at subs binds pl t h l =
      meets-from IsType cx V law c.type is (FlagCtor k) p subs tt
      (written cx c.type ty uid at subs binds (FlagCtor k) pl refl t) t.2.2 h of l
  ctor-from (NumbersCtor k) ty uid at subs binds pl t h l =
      meets-from IsType cx V law c.type is (NumbersCtor k) p subs tt
      (written cx c.type ty uid at subs binds (NumbersCtor k) pl refl t) t.2.2 h of l
  ctor-from (TextCtor k) ty uid at subs binds pl t h l =
      meets-from IsType cx V law c.type is (TextCtor k) p subs tt
      (written cx c.type ty uid at subs binds (TextCtor k) pl refl t) t.2.2 h of l

  length-wild : (n : ℕ) → length {A = Head T} (wildcards n) ≡ n
  length-wild zero = refl
  length-wild (suc n) = ap suc (length-wild n)

  pub piece-after : (h : Head T) (y : Replacement T) → IsHeadTyped cx c.type h → HeadFits named p h →
      Among y (specialise_head p (cx.arity p c.type) h) → AreHeadsTyped cx (part_columns cx c p) y.heads
  piece-after None y t f (inl e) =
      subst (λ (x : Replacement T). AreHeadsTyped cx (part_columns cx c p) x.heads) (sym e)
      (piece-typed IsType cx V law c.type is c p (wildcards (cx.arity p c.type)) refl (length-wild (cx.arity p c.type))
      (from-wild IsType cx V law c.type is (cx.sub p c.type) 0 (cx.arity p c.type)))
  piece-after None y t f (inr e) = absurd e
  piece-after (Some (de_pat k ty uid at subs binds)) y t f j = go (has_piece k p) refl
    where
      Y : Replacement T
      Y = record { heads = heads_of k (map Some (de_pats_list subs)) (cx.arity p c.type); chosen = []; binds = binds }

      whole : has_piece k p ≡ true → AreHeadsTyped cx (part_columns cx c p) (heads_of k (map Some (de_pats_list subs))
          (cx.arity p c.type))
      whole q =
          let l = head-count IsType cx V law c.type is named p (Some (de_pat k ty uid at subs binds)) of t f q in
          piece-typed IsType cx V law c.type is c p (heads_of k (map Some (de_pats_list subs))
          (cx.arity p c.type)) refl l (ctor-from k ty uid at subs binds f.plain t q l)

      go : (b : Bool) → has_piece k p ≡ b → AreHeadsTyped cx (part_columns cx c p) y.heads
      go true q =
          elim (subst (λ x. Among y (cond x (Y ∷ []) [])) q j) [
            | inl e ↦ subst
                (λ (x : Replacement T). AreHeadsTyped cx (part_columns cx c p) x.heads) (sym e) (whole q)
            | inr e ↦ absurd e
          ]
      go false q = absurd (subst (λ x. Among y (cond x (Y ∷ []) [])) q j)
