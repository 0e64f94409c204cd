-- The uids of elaborated patterns: an alternative's is its offset, and others are 0.
use Rattle.std.proofs.Common.{◌≡◌, ℕ, zero, suc, ◌-◌, ◌+◌, Bool, true, false, not, ◌&&◌, List, [], ◌∷◌, ◌++◌, length, replicate, nat_eq, refl, sym, ap, ◌∙◌, if◌then◌else◌}
use Rattle.match_model.specs.declared.Mode.{Mode}
use Rattle.match_model.specs.Types.{MType, PointType, SliceType, ArrayType, MTypes, no_types, more_types, types_list}
use Rattle.match_model.specs.Numbers.{closed, has_one_number}
use Rattle.match_model.specs.Declarations.{MProgram, node_types}
use Rattle.match_model.specs.RustTypes.{rust_set, inner_type}
use Rattle.match_model.specs.Constructors.{MCtor, SingleCtor, RowCtor, OrCtor, FlagCtor, NumbersCtor, TextCtor, PointCtor, WildCtor, MSet, SingleSet}
use Rattle.match_model.specs.Patterns.{MRest, NoRest, SomeRest, BoundRest, MPat, WildPat, NumPat, FlagPat, TextPat, SpanPat, BindPat, FormPat, ListPat, PointPat, OrPat, MPats, no_pats, more_pats, MNumbered, no_numbered, more_numbered}
use Rattle.match_model.specs.Matching.{to_move, mode_written, mode_behind, laid_out}
use Rattle.match_model.specs.ArenaPatterns.{WholePart, MBound, de_pat, MDePats, no_de_pats, more_de_pats, uid_of, at_of}
use Rattle.pattern_rules.specs.Builders.{Built, Maker, leaf, span, point, through_type, types_or_none, parts_from, node_ctor, form, made, made_at, and_pats, wild_maker, shape, rest_bound, list_of}
use Rattle.pattern_rules.specs.Elaborated.{with_bound, is_wide_ctor, standing_at, elaborated, elaborated_field, elaborated_alternatives, makers}
use Rattle.pattern_rules.specs.Shown.{uid_under, settled, settled_all, shown}

-- plain types
abbrev same_type : MType → MType
same_type t = t

-- the patterns below have the uids that they are to have
abbrev IsBelowPlain : Built → Type 0
IsBelowPlain (de_pat c t uid at subs binds) = settled_all same_type c subs ≡ subs

-- and its own is 0
abbrev pub IsPlainUid : Built → Type 0
IsPlainUid p = (uid_of p ≡ 0) × IsBelowPlain p

-- so all of them
abbrev ArePlainUids : MDePats MType → Type 0
ArePlainUids no_de_pats = Unit {0}
ArePlainUids (more_de_pats p ps) = IsPlainUid p × ArePlainUids ps

settled_is : (p : Built) → IsPlainUid p → settled same_type 0 p ≡ p
settled_is (de_pat c t uid at subs binds) h =
    ap (λ ps. de_pat c t 0 at ps binds) h.1 ∙ ap (λ u. de_pat c t u at subs binds) (sym h.0)

-- a constructor below which uids are 0
abbrev IsNoOr : MCtor → Type 0
IsNoOr OrCtor = ⊥
IsNoOr _ = Unit {0}

under_none : (c : MCtor) (p : Built) → IsNoOr c → uid_under c p ≡ 0
under_none OrCtor p h = absurd h
under_none c p h = refl

all_settled : (c : MCtor) (ps : MDePats MType) → IsNoOr c → ArePlainUids ps → settled_all same_type c ps ≡ ps
all_settled c no_de_pats h k = refl
all_settled c (more_de_pats p ps) h k =
    ap (λ q. more_de_pats q (settled_all same_type c ps)) (ap (λ u. settled same_type u p) (under_none c p h)
    ∙ settled_is p k.0)
    ∙ ap (more_de_pats p) (all_settled c ps h k.1)

over_plain : (c : MCtor) (t : MType) (at : ℕ) (subs : MDePats MType) (binds : List MBound) → IsNoOr c →
    ArePlainUids subs →
    IsPlainUid (de_pat c t 0 at subs binds)
over_plain c t at subs binds h k = (refl, all_settled c subs h k)

leaf_plain : (c : MCtor) (t : MType) (at : ℕ) → IsPlainUid (de_pat c t 0 at no_de_pats [])
leaf_plain c t at = (refl, refl)

point_plain : (t : MType) (p : Built) → IsPlainUid p → IsPlainUid (point t p)
point_plain t p h = over_plain PointCtor t 0 (more_de_pats p no_de_pats) [] tt (h, tt)

through_plain : (f : MType → Mode → Built) → ((u : MType) (m : Mode) → IsPlainUid (f u m)) → (t : MType) (m : Mode) →
    IsPlainUid (through_type f t m)
through_plain f h (PointType b t) m = point_plain (PointType b t) (through_type f t (mode_behind b m))
    (through_plain f h t (mode_behind b m))
through_plain f h t m = h t m

bound_plain : (b : MBound) (p : Built) → IsPlainUid p → IsPlainUid (with_bound b p)
bound_plain b (de_pat c t uid at subs binds) h = h

parts_plain : (f : ℕ → MType → Built) → ((i : ℕ) (w : MType) → IsPlainUid (f i w)) → (i : ℕ) (ts : MTypes) →
    ArePlainUids (parts_from f i ts)
parts_plain f h i no_types = tt
parts_plain f h i (more_types t ts) = (h i t, parts_plain f h (suc i) ts)

node_no_or : (st : MSet) (k : ℕ) → IsNoOr (node_ctor st k)
node_no_or SingleSet k = tt
node_no_or st k = tt

form_plain : (program : MProgram) (k : ℕ) (f : ℕ → MType → Built) → ((i : ℕ) (w : MType) → IsPlainUid (f i w)) →
    (u : MType) → IsPlainUid (form program k f u)
form_plain program k f h u =
    over_plain (node_ctor (rust_set program u) k) u 0 (parts_from f 0 (types_or_none (node_types program u k))) []
    (node_no_or (rust_set program u) k)
    (parts_plain f h 0 (types_or_none (node_types program u k)))

-- makers one by one, at whatever types
abbrev ArePlainMakers : List Maker → Type 0
ArePlainMakers [] = Unit {0}
ArePlainMakers (f ∷ fs) = ((t : MType) → IsPlainUid (f t)) × ArePlainMakers fs

makers_both : (fs gs : List Maker) → ArePlainMakers fs → ArePlainMakers gs → ArePlainMakers (fs ++ gs)
makers_both [] gs h k = k
makers_both (f ∷ fs) gs h k = (h.0, makers_both fs gs h.1 k)

wilds_plain : (n : ℕ) → ArePlainMakers (replicate n wild_maker)
wilds_plain zero = tt
wilds_plain (suc n) = (λ t. leaf_plain WildCtor t 0, wilds_plain n)

made_plain : (fs : List Maker) (ts : MTypes) → ArePlainMakers fs → ArePlainUids (made fs ts)
made_plain [] ts h = tt
made_plain (f ∷ fs) no_types h = tt
made_plain (f ∷ fs) (more_types t ts) h = (h.0 t, made_plain fs ts h.1)

laid_plain : (rest : MRest) (fs bs : List Maker) (n : ℕ) → ArePlainMakers fs → ArePlainMakers bs →
    ArePlainMakers (laid_out wild_maker fs rest bs n)
laid_plain rest fs bs n h k = go rest
  where
    around : ArePlainMakers (fs ++ (replicate (n - (length fs + length bs)) wild_maker ++ bs))
    around =
        makers_both fs (replicate (n - (length fs + length bs)) wild_maker ++ bs) h
        (makers_both (replicate (n - (length fs + length bs)) wild_maker) bs (wilds_plain (n - (length fs + length bs)))
        k)

    go : (rest : MRest) → ArePlainMakers (laid_out wild_maker fs rest bs n)
    go NoRest = makers_both fs bs h k
    go SomeRest = around
    go (BoundRest name written) = around

made_at_plain : (fs : List Maker) (t : MType) → ArePlainMakers fs → ArePlainUids (made_at fs t)
made_at_plain [] t h = tt
made_at_plain (f ∷ fs) t h = (h.0 t, made_at_plain fs t h.1)

both_plain : (ps qs : MDePats MType) → ArePlainUids ps → ArePlainUids qs → ArePlainUids (and_pats ps qs)
both_plain no_de_pats qs h k = k
both_plain (more_de_pats p ps) qs h k = (h.0, both_plain ps qs h.1 k)

row_plain : (rest : MRest) (fs bs : List Maker) (u t : MType) (m : Mode) → ArePlainMakers fs → ArePlainMakers bs →
    IsPlainUid (de_pat (RowCtor (shape (length fs) (length bs) rest)) u 0 0 (and_pats (made_at fs t) (made_at bs t))
    (rest_bound (length fs) (length bs) rest m))
row_plain rest fs bs u t m h k =
    over_plain (RowCtor (shape (length fs) (length bs) rest)) u 0 (and_pats (made_at fs t) (made_at bs t))
    (rest_bound (length fs) (length bs) rest m) tt
    (both_plain (made_at fs t) (made_at bs t) (made_at_plain fs t h) (made_at_plain bs t k))

list_plain : (program : MProgram) (rest : MRest) (fs bs : List Maker) (u : MType) (m : Mode) → ArePlainMakers fs →
    ArePlainMakers bs →
    IsPlainUid (list_of program fs rest bs u m)
list_plain program rest fs bs (SliceType t) m h k = row_plain rest fs bs (SliceType t) t m h k
list_plain program rest fs bs (ArrayType t n) m h k = row_plain rest fs bs (ArrayType t n) t m h k
list_plain program rest fs bs u m h k =
    over_plain SingleCtor u 0
    (made (laid_out wild_maker fs rest bs (length (types_list (types_or_none (node_types program u 0)))))
    (types_or_none (node_types program u 0))) [] tt
    (made_plain (laid_out wild_maker fs rest bs (length (types_list (types_or_none (node_types program u 0)))))
    (types_or_none (node_types program u 0))
    (laid_plain rest fs bs (length (types_list (types_or_none (node_types program u 0)))) h k))

-- ---- alternatives

-- what stands at an offset has it as its uid
standing_settled : (here : ℕ) (p : Built) → IsPlainUid p →
    (at_of (standing_at here p) ≡ here) × (settled same_type here (standing_at here p) ≡ standing_at here p)
standing_settled here (de_pat c t uid at subs binds) h = go (is_wide_ctor c && not (nat_eq here at))
  where
    go : (b : Bool) →
        (at_of (if b then de_pat OrCtor t here here (more_de_pats (de_pat c t at at subs binds) no_de_pats)
        [] else de_pat c t here here subs binds) ≡ here)
        × (settled same_type here (if b then de_pat OrCtor t here here
        (more_de_pats (de_pat c t at at subs binds) no_de_pats) [] else de_pat c t here here subs binds)
        ≡ (if b then de_pat OrCtor t here here (more_de_pats (de_pat c t at at subs binds) no_de_pats)
        [] else de_pat c t here here subs binds))
    go true = (refl, ap (λ ps. de_pat OrCtor t here here (more_de_pats (de_pat c t at at ps binds) no_de_pats) []) h.1)
    go false = (refl, ap (λ ps. de_pat c t here here ps binds) h.1)

field_if : (b : Bool) (p q : Built) → IsPlainUid p → IsPlainUid q → IsPlainUid (if b then p else q)
field_if true p q h k = h
field_if false p q h k = k

mutual
  pub plain_uids : (program : MProgram) (p : MPat) (t : MType) (m : Mode) → IsPlainUid (elaborated program p t m)
  plain_uids program WildPat t m = leaf_plain WildCtor t 0
  plain_uids program (NumPat n) t m = through_plain (λ u m'. leaf (NumbersCtor (closed n n)) u)
      (λ u m'. leaf_plain (NumbersCtor (closed n n)) u 0) t m
  plain_uids program (FlagPat b) t m = through_plain (λ u m'. leaf (FlagCtor b) u) (λ u m'. leaf_plain (FlagCtor b) u 0)
      t m
  plain_uids program (TextPat s) t m = point_plain t (leaf (TextCtor s) (inner_type t))
      (leaf_plain (TextCtor s) (inner_type t) 0)
  plain_uids program (SpanPat at r) t m =
      through_plain (λ u m'. span at r u) (λ u m'. leaf_plain (NumbersCtor r) u (if has_one_number r then 0 else at))
      t m
  plain_uids program (BindPat name written p) t m =
      bound_plain (record { name = name; mode = mode_written to_move written m; part = WholePart })
      (elaborated program p t m) (plain_uids program p t m)
  plain_uids program (FormPat k fields) t m =
      through_plain (λ u m'. form program k (λ i w. elaborated_field program fields i w m') u)
      (λ u m'. form_plain program k (λ i w. elaborated_field program fields i w m')
      (λ i w. field_plain program fields i w m') u) t m
  plain_uids program (ListPat front rest back) t m =
      through_plain (λ u m'. list_of program (makers program front m') rest (makers program back m') u m')
      (λ u m'. list_plain program rest (makers program front m') (makers program back m') u m'
      (makers_plain program front m') (makers_plain program back m')) t m
  plain_uids program (PointPat mutable p) t m =
      point_plain t (elaborated program p (inner_type t) (to_move m)) (plain_uids program p (inner_type t) (to_move m))
  plain_uids program (OrPat alternatives) t m = (refl, alternatives_settled program alternatives t m)

  field_plain : (program : MProgram) (ps : MNumbered) (i : ℕ) (t : MType) (m : Mode) →
      IsPlainUid (elaborated_field program ps i t m)
  field_plain program no_numbered i t m = leaf_plain WildCtor t 0
  field_plain program (more_numbered j p ps) i t m =
      field_if (nat_eq i j) (elaborated program p t m) (elaborated_field program ps i t m) (plain_uids program p t m)
      (field_plain program ps i t m)

  makers_plain : (program : MProgram) (ps : MPats) (m : Mode) → ArePlainMakers (makers program ps m)
  makers_plain program no_pats m = tt
  makers_plain program (more_pats p ps) m = (λ t. plain_uids program p t m, makers_plain program ps m)

  alternatives_settled : (program : MProgram) (ps : MNumbered) (t : MType) (m : Mode) →
      settled_all same_type OrCtor (elaborated_alternatives program ps t m) ≡ elaborated_alternatives program ps t m
  alternatives_settled program no_numbered t m = refl
  alternatives_settled program (more_numbered at p ps) t m =
      let s = standing_settled at (elaborated program p t m) (plain_uids program p t m) in
      ap (λ q. more_de_pats q (settled_all same_type OrCtor (elaborated_alternatives program ps t m)))
      (ap (λ u. settled same_type u (standing_at at (elaborated program p t m))) s.0 ∙ s.1)
      ∙ ap (more_de_pats (standing_at at (elaborated program p t m))) (alternatives_settled program ps t m)

-- an arm's pattern, without its uids, is itself
pub standing_shown : (program : MProgram) (here : ℕ) (p : MPat) (t : MType) (m : Mode) →
    shown (λ u. u) (standing_at here (elaborated program p t m)) ≡ standing_at here (elaborated program p t m)
standing_shown program here p t m =
    let s = standing_settled here (elaborated program p t m) (plain_uids program p t m) in
    ap (λ u. settled same_type u (standing_at here (elaborated program p t m))) s.0 ∙ s.1
