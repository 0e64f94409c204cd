-- Exactly the values that no row takes fit one of the stacks, and one only.
use Rattle.std.proofs.Common.{◌≡◌, ◌≢◌, ◌≤◌, ℕ, zero, suc, ◌+◌, Bool, true, false, not, ◌&&◌, ◌||◌, List, [], ◌∷◌, ◌++◌, map, take, drop, replicate, length, Some, None, refl, sym, ap, subst, ◌∙◌, arith, length-append, length-drop, IsTrue}
use Rattle.std.specs.List.{list_all, flat_map, All}
use Rattle.std.proofs.lemmas.List.Elements.{All-head, All-tail}
use Rattle.std.proofs.lemmas.List.{length-map, take-append-drop}
use Rattle.match_model.specs.Values.{MValue, Unseen, Thing}
use Rattle.match_model.specs.Constructors.{FixedShape, LongerShape, MCtor, SingleCtor, PointCtor, LaterCtor, OtherTextCtor, VariantCtor, FlagCtor, NumbersCtor, TextCtor, RowCtor, WildCtor, OrCtor, MSet, SingleSet, PointSet, VariantSet, FlagSet, NumberSet, TextSet, RowSet, NothingSet, OpaqueSet, Elementary, OneSingle, OnePoint, OneLater, OneVariant, OneFlag, OneNumber, OneText, OneLength, builds_one, has_piece, belongs, builds}
use Rattle.match_model.specs.Contexts.{Context, Open}
use Rattle.match_model.specs.ContextLaws.{PartsLaw, ValuesLaw, ValueIs, BuiltOnce, ArityIs}
use Rattle.match_model.specs.ArenaPatterns.{MBound, de_pat, MDePats, de_pats_list}
use Rattle.match_model.specs.Rows.{is_or_ctor, Head, is_wild_ctor, heads_of, expand_row, starts_wild, row_rest, column_of, all_specialised, parts_open, starts_or}
use Rattle.match_model.specs.Matrices.{column_at}
use Rattle.match_model.specs.Witness.{MWitness, AnyOf, witnesses_of, all_fit, parts_under}
use Rattle.match_model.specs.WitnessList.{Witnesses, taken, covered, no_row, anything, by_pieces, PieceWitnesses, no_piece, with_value, without_value, wrapped, named_in}
use Rattle.match_model.specs.WellTyped.{is_written, IsTyped}
use Rattle.match_model.proofs.Basics.{untrue, both}
use Rattle.constructor_sets.specs.Columns.{one, hits, IsOneSided, HasRoomFor}
use Rattle.constructor_sets.proofs.Once.{once_of}
use Rattle.constructor_sets.proofs.Whole.{made_pieces}
use Rattle.pattern_matrix.proofs.Made.{AreMadeRows, expand_made, rests_made, column_made, special_made}
use Rattle.pat_context.specs.Parts.{AreValues}
use Rattle.pattern_matrix.specs.Covering.{some_takes, fit_count}
use Rattle.pattern_matrix.specs.HeadRows.{AreTypes}
use Rattle.pattern_matrix.proofs.SpecialTyped.{AllTyped, head_fitted}
use Rattle.pattern_matrix.proofs.Takes.{expand_takes}
use Rattle.pattern_matrix.proofs.Specials.{IsSided, AreSidedRows, special_takes}
use Rattle.pattern_matrix.proofs.Wrapping.{wrapped_fits}
use Rattle.pat_context.proofs.Parting.{parts_values, refill}
use Rattle.pattern_matrix.proofs.Places.{cols, wild_row_takes, length-below, values-append, rests_typed, expanded_typed, NoneOr, expanded_none, heads_good, wild_takes, all_wild, specials_typed, specials_types}

-- counts

count-append : (ws us : List (List MWitness)) (vs : List MValue) →
    fit_count (ws ++ us) vs ≡ fit_count ws vs + fit_count us vs
count-append [] us vs = let e : fit_count us vs ≡ 0 + fit_count us vs = omega arith in e
count-append (w ∷ ws) us vs = let e = count-append ws us vs in omega (arith, e)

count-any : (ws : List (List MWitness)) (v : MValue) (vs : List MValue) →
    fit_count (map (λ w. AnyOf ∷ w) ws) (v ∷ vs) ≡ fit_count ws vs
count-any [] v vs = refl
count-any (w ∷ ws) v vs = ap (λ n. one (all_fit (witnesses_of w) vs) + n) (count-any ws v vs)

-- the number, where the test holds
abbrev when : Bool → ℕ → ℕ
when true n = n
when false n = 0

-- as often as a piece builds the value
abbrev hit_sum : List (List ℕ) → List MCtor → MValue → ℕ → ℕ
hit_sum named [] v n = 0
hit_sum named (p ∷ pieces) v n = when (builds named p v) n + hit_sum named pieces v n

hit_none : (named : List (List ℕ)) (pieces : List MCtor) (v : MValue) (n : ℕ) → hits named pieces v ≡ 0 →
    hit_sum named pieces v n ≡ 0
hit_none named [] v n e = refl
hit_none named (p ∷ pieces) v n e =
    go (builds named p v) (hits named pieces v) (hit_sum named pieces v n) e (hit_none named pieces v n)
  where
    go : (b : Bool) (h s : ℕ) → one b + h ≡ 0 → (h ≡ 0 → s ≡ 0) → when b n + s ≡ 0
    go true h s e f = absurd (omega (arith, e))
    go false h s e f = let z = f (omega (arith, e)) in omega (arith, z)

hit_one : (named : List (List ℕ)) (pieces : List MCtor) (v : MValue) (n : ℕ) → hits named pieces v ≡ 1 →
    hit_sum named pieces v n ≡ n
hit_one named [] v n e = absurd (omega (arith, e))
hit_one named (p ∷ pieces) v n e =
    go (builds named p v) (hits named pieces v) (hit_sum named pieces v n) e (hit_none named pieces v n) (hit_one named pieces v n)
  where
    go : (b : Bool) (h s : ℕ) → one b + h ≡ 1 → (h ≡ 0 → s ≡ 0) → (h ≡ 1 → s ≡ n) → when b n + s ≡ n
    go true h s e f g = let z = f (omega (arith, e)) in omega (arith, z)
    go false h s e f g = let z = g (omega (arith, e)) in omega (arith, z)

-- each stack has at least so many witnesses
abbrev pub AreLong : ℕ → List (List MWitness) → Type 0
AreLong n [] = Unit {0}
AreLong n (w ∷ ws) = (length w ≡ n) × AreLong n ws

long-append : (n : ℕ) (ws us : List (List MWitness)) → AreLong n ws → AreLong n us → AreLong n (ws ++ us)
long-append n [] us h k = k
long-append n (w ∷ ws) us h k = (h.0, long-append n ws us h.1 k)

long_wrapped : (p : MCtor) (named : List (List ℕ)) (k n : ℕ) (ws : List (List MWitness)) → AreLong (k + n) ws →
    AreLong (suc n) (map (wrapped p named k) ws)
long_wrapped p named k n [] h = tt
long_wrapped p named k n (w ∷ ws) h = let d = length-drop k w in let l = h.0 in (omega (arith, d, l), long_wrapped p named k n ws h.1)

long_any : (n : ℕ) (ws : List (List MWitness)) → AreLong n ws → AreLong (suc n) (map (λ w. AnyOf ∷ w) ws)
long_any n [] h = tt
long_any n (w ∷ ws) h = (ap suc h.0, long_any n ws h.1)

long_replicate : (n : ℕ) → length (replicate n AnyOf) ≡ n
long_replicate zero = refl
long_replicate (suc n) = ap suc (long_replicate n)

count_wrapped : (p : MCtor) (named : List (List ℕ)) (n m : ℕ) (ws : List (List MWitness)) (v : MValue) (vs : List MValue) →
    (is_wild_ctor p || is_or_ctor p) ≡ false → ArityIs p n → AreLong (n + m) ws →
    (builds named p v ≡ true → length (parts_under p v) ≡ n) → fit_count (map (wrapped p named n) ws) (v ∷ vs) ≡ when (builds named p v) (fit_count ws (parts_under p v ++ vs))
count_wrapped p named n m [] v vs x a l f = go (builds named p v)
  where
    go : (b : Bool) → 0 ≡ when b 0
    go true = refl
    go false = refl
count_wrapped p named n m (w ∷ ws) v vs x a l f =
    let long : n ≤ length w = let k = l.0 in omega (arith, k) in
    ap (λ b. one b + fit_count (map (wrapped p named n) ws) (v ∷ vs)) (wrapped_fits p named n w v vs x a long f)
    ∙ ap (λ k. one (builds named p v && all_fit (witnesses_of w) (parts_under p v ++ vs)) + k) (count_wrapped p named n m ws v vs x a l.1 f)
    ∙ go (builds named p v)
  where
    go : (b : Bool) →
        one (b && all_fit (witnesses_of w) (parts_under p v ++ vs)) + when b (fit_count ws (parts_under p v ++ vs)) ≡ when b (one (all_fit (witnesses_of w) (parts_under p v ++ vs)) + fit_count ws (parts_under p v ++ vs))
    go true = refl
    go false = refl

module _ {T : Type 0} (IsType : T → Type 0) (IsValue : T → Bool → MValue → Type 0) (cx : Context T) (values : ValuesLaw IsType IsValue cx) (law : PartsLaw IsType IsValue cx) where
  -- a set without constructors has only wildcards, so a value in a column with another head is built
  abbrev pub IsSeen : MSet → Type 0
  IsSeen NothingSet = ⊥
  IsSeen OpaqueSet = ⊥
  IsSeen _ = Unit {0}

  not_bare : (s : MSet) (v w : MValue) → ((e : Elementary) → builds_one e w ≡ false) → BuiltOnce s v → v ≢ w
  not_bare s v w f b e = absurd (untrue (sym (f b.by) ∙ subst (λ u. builds_one b.by u ≡ true) e b.build))

  no_unseen : (e : Elementary) → builds_one e Unseen ≡ false
  no_unseen OneSingle = refl
  no_unseen OnePoint = refl
  no_unseen OneLater = refl
  no_unseen (OneVariant i) = refl
  no_unseen (OneFlag i) = refl
  no_unseen (OneNumber i) = refl
  no_unseen (OneText i) = refl
  no_unseen (OneLength i) = refl

  no_thing : (e : Elementary) → builds_one e Thing ≡ false
  no_thing OneSingle = refl
  no_thing OnePoint = refl
  no_thing OneLater = refl
  no_thing (OneVariant i) = refl
  no_thing (OneFlag i) = refl
  no_thing (OneNumber i) = refl
  no_thing (OneText i) = refl
  no_thing (OneLength i) = refl

  pub built : (s : MSet) (sure : Bool) (v : MValue) → IsSeen s → ValueIs s sure v → (v ≢ Unseen) × (v ≢ Thing)
  built NothingSet sure v k b = absurd k
  built OpaqueSet sure v k b = absurd k
  built SingleSet sure v k b = (not_bare SingleSet v Unseen no_unseen b, not_bare SingleSet v Thing no_thing b)
  built PointSet sure v k b = (not_bare PointSet v Unseen no_unseen b, not_bare PointSet v Thing no_thing b)
  built TextSet sure v k b = (not_bare TextSet v Unseen no_unseen b, not_bare TextSet v Thing no_thing b)
  built FlagSet sure v k b = (not_bare FlagSet v Unseen no_unseen b, not_bare FlagSet v Thing no_thing b)
  built (VariantSet c l) sure v k b =
      (not_bare (VariantSet c l) v Unseen no_unseen b, not_bare (VariantSet c l) v Thing no_thing b)
  built (NumberSet f o) sure v k b =
      (not_bare (NumberSet f o) v Unseen no_unseen b, not_bare (NumberSet f o) v Thing no_thing b)
  built (RowSet l) sure v k b = (not_bare (RowSet l) v Unseen no_unseen b, not_bare (RowSet l) v Thing no_thing b)

  pub seen : (s : MSet) (o : Open T) (places : List (Open T)) (hss : List (List (Head T))) → cx.set_of o.type ≡ s →
      AllTyped cx (cols (o ∷ places)) hss → NoneOr cx hss → list_all starts_wild hss ≡ false → IsSeen s
  seen NothingSet o places hss e h k f =
      untrue (sym f ∙ all_wild cx (column_at [] o) (cols places) hss (λ d. ap (λ x. belongs x d) e) h k)
  seen OpaqueSet o places hss e h k f =
      untrue (sym f ∙ all_wild cx (column_at [] o) (cols places) hss (λ d. ap (λ x. belongs x d) e) h k)
  seen SingleSet o places hss e h k f = tt
  seen PointSet o places hss e h k f = tt
  seen TextSet o places hss e h k f = tt
  seen FlagSet o places hss e h k f = tt
  seen (VariantSet c l) o places hss e h k f = tt
  seen (NumberSet a b) o places hss e h k f = tt
  seen (RowSet l) o places hss e h k f = tt

  abbrev Roomed : MCtor → MCtor → Type 0
  Roomed p c = IsTrue (has_piece c p) → HasRoomFor p c

  roomy : (p : MCtor) → HasRoomFor p WildCtor
  roomy (RowCtor (LongerShape f b)) = tt
  roomy (RowCtor (FixedShape n)) = tt
  roomy SingleCtor = tt
  roomy PointCtor = tt
  roomy LaterCtor = tt
  roomy OtherTextCtor = tt
  roomy WildCtor = tt
  roomy OrCtor = tt
  roomy (VariantCtor k) = tt
  roomy (FlagCtor b) = tt
  roomy (NumbersCtor r) = tt
  roomy (TextCtor t) = tt

  sided_head : (o : Open T) (p : MCtor) (named : List (List ℕ)) (c : MCtor) (t : T) (uid at : ℕ) (subs : MDePats T)
      (binds : List MBound) →
      IsType o.type → IsTrue (belongs (cx.set_of o.type) p) →
      is_or_ctor c ≡ false → is_wild_ctor c ≡ false → IsTyped cx o.type (de_pat c t uid at subs binds) → IsTrue (belongs (cx.set_of o.type) c && is_written c) → length (de_pats_list subs) ≡ cx.arity c o.type →
      IsOneSided named p c → Roomed p c → IsSided named p (cx.arity p o.type) c subs
  sided_head o p named c t uid at subs binds d b n w h k l s r = record {
    plain = n;
    sided = s;
    room = r;
    ends = λ f g e. length-map (de_pats_list subs) Some ∙ l ∙ subst (λ x. ArityIs x (cx.arity c o.type)) e (law.arity o.type c d ((both (belongs (cx.set_of o.type) c) (is_written c) k).0));
    count = λ e. (head_fitted IsType IsValue cx law o.type c p t uid at subs binds d b h e).0;
  }

  -- the rows of a column are one-sided for its pieces
  sided_rows : (o : Open T) (places : List (Open T)) (named : List (List ℕ)) (p : MCtor) (hss : List (List (Head T))) →
      IsType o.type → IsTrue (belongs (cx.set_of o.type) p) → AllTyped cx (cols (o ∷ places)) hss → NoneOr cx hss →
      All (IsOneSided named p) (column_of hss) → All (λ c. IsTrue (has_piece c p) → HasRoomFor p c) (column_of hss) → AreSidedRows named p (cx.arity p o.type) hss
  sided_rows o places named p [] d b h k s r = tt
  sided_rows o places named p ([] ∷ hss) d b h k s r = absurd h.0
  sided_rows o places named p ((None ∷ hs) ∷ hss) d b h k s r = (tt, sided_rows o places named p hss d b h.1 k.1 s r)
  sided_rows o places named p ((Some (de_pat c t uid at subs binds) ∷ hs) ∷ hss) d b h k s r =
      go c h.0.0 k.0 s r (λ s r. sided_rows o places named p hss d b h.1 k.1 s r)
    where
      go : (c : MCtor) → IsTyped cx o.type (de_pat c t uid at subs binds) →
          starts_or (Some (de_pat c t uid at subs binds) ∷ hs) ≡ false →
          All (IsOneSided named p) (column_of ((Some (de_pat c t uid at subs binds) ∷ hs) ∷ hss)) → All (λ c. IsTrue (has_piece c p) → HasRoomFor p c) (column_of ((Some (de_pat c t uid at subs binds) ∷ hs) ∷ hss)) →
          (All (IsOneSided named p) (column_of hss) → All (λ c. IsTrue (has_piece c p) → HasRoomFor p c) (column_of hss) → AreSidedRows named p (cx.arity p o.type) hss) →
          IsSided named p (cx.arity p o.type) c subs × AreSidedRows named p (cx.arity p o.type) hss
      go WildCtor h k s r f = (
        record {
          plain = refl;
          sided = λ v b. refl;
          room = λ e. roomy p;
          ends = λ g e q. absurd (cc);
          count = λ e. (head_fitted IsType IsValue cx law o.type WildCtor p t uid at subs binds d b h e).0;
        },
        f s r,
      )
      go OrCtor h k s r f = untrue (sym k)
      go SingleCtor h k s r f =
          (sided_head o p named SingleCtor t uid at subs binds d b refl refl h h.2.0 h.2.1 (All-head (IsOneSided named p) SingleCtor (column_of hss) s) (All-head (Roomed p) SingleCtor (column_of hss) r), f (All-tail (IsOneSided named p) SingleCtor (column_of hss) s) (All-tail (Roomed p) SingleCtor (column_of hss) r))
      go PointCtor h k s r f =
          (sided_head o p named PointCtor t uid at subs binds d b refl refl h h.2.0 h.2.1 (All-head (IsOneSided named p) PointCtor (column_of hss) s) (All-head (Roomed p) PointCtor (column_of hss) r), f (All-tail (IsOneSided named p) PointCtor (column_of hss) s) (All-tail (Roomed p) PointCtor (column_of hss) r))
      go LaterCtor h k s r f =
          (sided_head o p named LaterCtor t uid at subs binds d b refl refl h h.2.0 h.2.1 (All-head (IsOneSided named p) LaterCtor (column_of hss) s) (All-head (Roomed p) LaterCtor (column_of hss) r), f (All-tail (IsOneSided named p) LaterCtor (column_of hss) s) (All-tail (Roomed p) LaterCtor (column_of hss) r))
      go OtherTextCtor h k s r f =
          (sided_head o p named OtherTextCtor t uid at subs binds d b refl refl h h.2.0 h.2.1 (All-head (IsOneSided named p) OtherTextCtor (column_of hss) s) (All-head (Roomed p) OtherTextCtor (column_of hss) r), f (All-tail (IsOneSided named p) OtherTextCtor (column_of hss) s) (All-tail (Roomed p) OtherTextCtor (column_of hss) r))
      go (VariantCtor i) h k s r f =
          (sided_head o p named (VariantCtor i) t uid at subs binds d b refl refl h h.2.0 h.2.1 (All-head (IsOneSided named p) (VariantCtor i) (column_of hss) s) (All-head (Roomed p) (VariantCtor i) (column_of hss) r), f (All-tail (IsOneSided named p) (VariantCtor i) (column_of hss) s) (All-tail (Roomed p) (VariantCtor i) (column_of hss) r))
      go (FlagCtor i) h k s r f =
          (sided_head o p named (FlagCtor i) t uid at subs binds d b refl refl h h.2.0 h.2.1 (All-head (IsOneSided named p) (FlagCtor i) (column_of hss) s) (All-head (Roomed p) (FlagCtor i) (column_of hss) r), f (All-tail (IsOneSided named p) (FlagCtor i) (column_of hss) s) (All-tail (Roomed p) (FlagCtor i) (column_of hss) r))
      go (NumbersCtor i) h k s r f =
          (sided_head o p named (NumbersCtor i) t uid at subs binds d b refl refl h h.2.0 h.2.1 (All-head (IsOneSided named p) (NumbersCtor i) (column_of hss) s) (All-head (Roomed p) (NumbersCtor i) (column_of hss) r), f (All-tail (IsOneSided named p) (NumbersCtor i) (column_of hss) s) (All-tail (Roomed p) (NumbersCtor i) (column_of hss) r))
      go (TextCtor i) h k s r f =
          (sided_head o p named (TextCtor i) t uid at subs binds d b refl refl h h.2.0 h.2.1 (All-head (IsOneSided named p) (TextCtor i) (column_of hss) s) (All-head (Roomed p) (TextCtor i) (column_of hss) r), f (All-tail (IsOneSided named p) (TextCtor i) (column_of hss) s) (All-tail (Roomed p) (TextCtor i) (column_of hss) r))
      go (RowCtor i) h k s r f =
          (sided_head o p named (RowCtor i) t uid at subs binds d b refl refl h h.2.0 h.2.1 (All-head (IsOneSided named p) (RowCtor i) (column_of hss) s) (All-head (Roomed p) (RowCtor i) (column_of hss) r), f (All-tail (IsOneSided named p) (RowCtor i) (column_of hss) s) (All-tail (Roomed p) (RowCtor i) (column_of hss) r))

  pub not_wild : (set : MSet) (p : MCtor) → belongs set p ≡ true → (is_wild_ctor p || is_or_ctor p) ≡ false
  not_wild set WildCtor b = untrue (sym (no_wild set) ∙ b)
    where
      no_wild : (set : MSet) → belongs set WildCtor ≡ false
      no_wild SingleSet = refl
      no_wild PointSet = refl
      no_wild TextSet = refl
      no_wild FlagSet = refl
      no_wild OpaqueSet = refl
      no_wild NothingSet = refl
      no_wild (VariantSet c l) = refl
      no_wild (NumberSet a b) = refl
      no_wild (RowSet l) = refl
  not_wild set OrCtor b = untrue (sym (no_or set) ∙ b)
    where
      no_or : (set : MSet) → belongs set OrCtor ≡ false
      no_or SingleSet = refl
      no_or PointSet = refl
      no_or TextSet = refl
      no_or FlagSet = refl
      no_or OpaqueSet = refl
      no_or NothingSet = refl
      no_or (VariantSet c l) = refl
      no_or (NumberSet a b) = refl
      no_or (RowSet l) = refl
  not_wild set _ b = refl

  -- all pieces belong, and the rows are one-sided for them
  abbrev pub AreAllSided : (o : Open T) → (named : List (List ℕ)) → List (List (Head T)) → List MCtor → Type 0
  AreAllSided o named hss [] = Unit {0}
  AreAllSided o named hss (p ∷ pieces) =
      (IsTrue (belongs (cx.set_of o.type) p) × AreSidedRows named p (cx.arity p o.type) hss) × AreAllSided o named hss pieces

  pub all_sided : (o : Open T) (places : List (Open T)) (named : List (List ℕ)) (hss : List (List (Head T)))
      (pieces : List MCtor) →
      IsType o.type → AllTyped cx (cols (o ∷ places)) hss → NoneOr cx hss →
      All (λ p. IsTrue (belongs (cx.set_of o.type) p)) pieces → All (λ p. All (IsOneSided named p) (column_of hss)) pieces → All (λ p. All (λ c. IsTrue (has_piece c p) → HasRoomFor p c) (column_of hss)) pieces →
      AreAllSided o named hss pieces
  all_sided o places named hss [] d h k b s r = tt
  all_sided o places named hss (p ∷ pieces) d h k b s r =
      let belong = All-head (λ p. IsTrue (belongs (cx.set_of o.type) p)) p pieces b in (
        (belong, sided_rows o places named p hss d belong h k (All-head (λ p. All (IsOneSided named p) (column_of hss)) p pieces s) (All-head (λ p. All (λ c. IsTrue (has_piece c p) → HasRoomFor p c) (column_of hss)) p pieces r)),
        all_sided o places named hss pieces d h k (All-tail (λ p. IsTrue (belongs (cx.set_of o.type) p)) p pieces b) (All-tail (λ p. All (IsOneSided named p) (column_of hss)) p pieces s)
            (All-tail (λ p. All (λ c. IsTrue (has_piece c p) → HasRoomFor p c) (column_of hss)) p pieces r),
      )

  on_true : (b : Bool) (n m : ℕ) → (b ≡ true → n ≡ m) → when b n ≡ when b m
  on_true true n m f = f refl
  on_true false n m f = refl

  none_built : (b : Bool) (s n : ℕ) → (b ≡ true → ⊥) → s ≡ when b n + s
  none_built true s n f = absurd (f refl)
  none_built false s n f = omega arith

  fit_any : (places : List (Open T)) (vs : List MValue) → AreValues IsValue places vs →
      all_fit (witnesses_of (replicate (length places) AnyOf)) vs ≡ true
  fit_any [] [] a = refl
  fit_any [] (v ∷ vs) a = absurd a
  fit_any (o ∷ places) [] a = absurd a
  fit_any (o ∷ places) (v ∷ vs) a = fit_any places vs a.1

  mutual
    pub long_stacks : (places : List (Open T)) (hss : List (List (Head T))) (ws : List (List MWitness)) →
        Witnesses cx IsValue places hss ws → AreLong (length places) ws
    long_stacks places hss ws (taken row rows) = tt
    long_stacks places hss ws (covered ps rows e) = tt
    long_stacks places hss ws (no_row ps) = (long_replicate (length ps), tt)
    long_stacks places hss ws (anything o ps row rows us e k) =
        long_any (length ps) us (long_stacks ps (map row_rest (flat_map expand_row (row ∷ rows))) us k)
    long_stacks places hss ws (by_pieces o ps row rows pieces us e a k) =
        long_pieces (named_in pieces) o ps (flat_map expand_row (row ∷ rows)) pieces us k

    long_pieces : (named : List (List ℕ)) (o : Open T) (places : List (Open T)) (hss : List (List (Head T)))
        (pieces : List MCtor) (ws : List (List MWitness)) →
        PieceWitnesses cx IsValue named o places hss pieces ws →
        AreLong (suc (length places)) ws
    long_pieces named o places hss pieces ws (no_piece n q ps rows) = tt
    long_pieces named o places hss pieces ws (with_value n q ps rows p rest xs us v k r) =
        long-append (suc (length ps)) (map (wrapped p n (cx.arity p q.type)) xs) us
        (long_wrapped p n (cx.arity p q.type) (length ps) xs
        (subst (λ m. AreLong m xs) (length-append (parts_open cx q p) ps ∙ ap (λ m. m + length ps) (length-below (Rattle.match_model.specs.Rows.part_open cx q p) (cx.arity p q.type)))
        (long_stacks (parts_open cx q p ++ ps) (all_specialised p (cx.arity p q.type) rows) xs k)))
        (long_pieces n q ps rows rest us r)
    long_pieces named o places hss pieces ws (without_value n q ps rows p rest us v r) =
        long_pieces n q ps rows rest us r

  -- of a value at the first place, with values at the others, as many stacks fit as pieces build it, where no row takes them
  mutual
    pub fit_stacks : (places : List (Open T)) (hss : List (List (Head T))) (ws : List (List MWitness)) →
        Witnesses cx IsValue places hss ws → AreTypes IsType (cols places) → AllTyped cx (cols places) hss →
        AreMadeRows hss →
        (vs : List MValue) → AreValues IsValue places vs → fit_count ws vs ≡ one (not (some_takes hss vs))
    fit_stacks places hss ws (taken [] rows) d h g [] a = refl
    fit_stacks places hss ws (taken [] rows) d h g (v ∷ vs) a = absurd a
    fit_stacks places hss ws (taken (x ∷ row) rows) d h g vs a = absurd h.0
    fit_stacks places hss ws (covered ps rows e) d h g vs a =
        ap (λ b. one (not b)) (sym (wild_row_takes IsValue ps rows e vs a))
    fit_stacks places hss ws (no_row ps) d h g vs a = ap (λ b. one b + 0) (fit_any ps vs a)
    fit_stacks places hss ws (anything o ps row rows us e k) d h g [] a = absurd a
    fit_stacks places hss ws (anything o ps row rows us e k) d h g (v ∷ vs) a =
        let hs = flat_map expand_row (row ∷ rows) in
        let t = expanded_typed cx (column_at [] o) (cols ps) (row ∷ rows) h in
        let mh = expand_made (row ∷ rows) g in
        count-any us v vs
        ∙ fit_stacks ps (map row_rest hs) us k d.1 (rests_typed cx (column_at [] o) (cols ps) hs t) (rests_made hs mh) vs a.1
        ∙ ap (λ b. one (not b)) (sym (wild_takes cx (column_at [] o) (cols ps) hs v vs t e) ∙ expand_takes (row ∷ rows) (v ∷ vs))
    fit_stacks places hss ws (by_pieces o ps row rows pieces us e p k) d h g [] a = absurd a
    fit_stacks places hss ws (by_pieces o ps row rows pieces us e p k) d h g (v ∷ vs) a =
        let hs = flat_map expand_row (row ∷ rows) in
        let t = expanded_typed cx (column_at [] o) (cols ps) (row ∷ rows) h in
        let mh = expand_made (row ∷ rows) g in
        let n = expanded_none cx (column_at [] o) (cols ps) (row ∷ rows) h in
        let c = made_pieces (cx.set_of o.type) (column_of hs) pieces (values.made o.type d.0) (values.ascend o.type d.0) (heads_good cx (column_at [] o) (cols ps) hs t n) (column_made hs mh) p in
        let b = values.each o.type o.sure v d.0 a.0 in
        let u = built (cx.set_of o.type) o.sure v (seen (cx.set_of o.type) o ps hs refl t n e) b in
        let once = once_of (cx.set_of o.type) o.sure (column_of hs) pieces (values.ascend o.type d.0) p v b u.0 u.1 in
        fit_pieces (named_in pieces) o ps hs pieces us k d t mh (all_sided o ps (named_in pieces) hs pieces d.0 t n c.belong c.one_sided c.room) v vs a
        ∙ hit_one (named_in pieces) pieces v (one (not (some_takes hs (v ∷ vs)))) once
        ∙ ap (λ x. one (not x)) (expand_takes (row ∷ rows) (v ∷ vs))

    fit_pieces : (named : List (List ℕ)) (o : Open T) (places : List (Open T)) (hss : List (List (Head T)))
        (pieces : List MCtor) (ws : List (List MWitness)) →
        PieceWitnesses cx IsValue named o places hss pieces ws →
        AreTypes IsType (cols (o ∷ places)) → AllTyped cx (cols (o ∷ places)) hss → AreMadeRows hss → AreAllSided o named hss pieces → (v : MValue) (vs : List MValue) → AreValues IsValue (o ∷ places) (v ∷ vs) →
        fit_count ws (v ∷ vs) ≡ hit_sum named pieces v (one (not (some_takes hss (v ∷ vs))))
    fit_pieces named o places hss pieces ws (no_piece m q ps rows) d h g s v vs a = refl
    fit_pieces named o places hss pieces ws (with_value m q ps rows p rest xs us y k r) d h g s v vs a =
        let n = cx.arity p q.type in
        let parts : builds m p v ≡ true → (length (parts_under p v) ≡ n) × AreValues IsValue (parts_open cx q p) (parts_under p v) =
        λ z. parts_values IsType IsValue cx values law q p m v (cx.set_of q.type) d.0 refl s.0.0 a.0 z in
        let long : AreLong (n + length ps) xs =
        subst (λ i. AreLong i xs) (length-append (parts_open cx q p) ps ∙ ap (λ i. i + length ps) (length-below (Rattle.match_model.specs.Rows.part_open cx q p) n))
        (long_stacks (parts_open cx q p ++ ps) (all_specialised p n rows) xs k) in
        count-append (map (wrapped p m n) xs) us (v ∷ vs)
        ∙ ap (λ i. i + fit_count us (v ∷ vs)) (count_wrapped p m n (length ps) xs v vs (not_wild (cx.set_of q.type) p s.0.0) (law.arity q.type p d.0 s.0.0) long (λ z. (parts z).0))
        ∙ ap (λ i. i + fit_count us (v ∷ vs))
        (on_true (builds m p v) (fit_count xs (parts_under p v ++ vs)) (one (not (some_takes rows (v ∷ vs))))
        (λ z. fit_stacks (parts_open cx q p ++ ps) (all_specialised p n rows) xs k (specials_types IsType IsValue cx law q ps p s.0.0 d) (specials_typed IsType IsValue cx law q ps p rows d.0 s.0.0 h) (special_made p n rows g)
        (parts_under p v ++ vs) (values-append IsValue (parts_open cx q p) ps (parts_under p v) vs (parts z).1 a.1)
        ∙ ap (λ x. one (not x)) (special_takes m p n v vs z (parts z).0 rows s.0.1)))
        ∙ ap (λ i. when (builds m p v) (one (not (some_takes rows (v ∷ vs)))) + i) (fit_pieces m q ps rows rest us r d h g s.1 v vs a)
    fit_pieces named o places hss pieces ws (without_value m q ps rows p rest us y r) d h g s v vs a =
        fit_pieces m q ps rows rest us r d h g s.1 v vs a
        ∙ none_built (builds m p v) (hit_sum m rest v (one (not (some_takes rows (v ∷ vs))))) (one (not (some_takes rows (v ∷ vs)))) (λ z. y (v, a.0, z))

  -- each stack is fitted by values of the places, where the places have values

  abbrev pub AreFitted : List (Open T) → List (List MWitness) → Type 0
  AreFitted places [] = Unit {0}
  AreFitted places (w ∷ ws) =
      ((vs : List MValue) × AreValues IsValue places vs × (all_fit (witnesses_of w) vs ≡ true)) × AreFitted places ws

  fitted-append : (places : List (Open T)) (ws us : List (List MWitness)) → AreFitted places ws →
      AreFitted places us → AreFitted places (ws ++ us)
  fitted-append places [] us h k = k
  fitted-append places (w ∷ ws) us h k = (h.0, fitted-append places ws us h.1 k)

  fitted_any : (o : Open T) (places : List (Open T)) (v : MValue) (ws : List (List MWitness)) →
      IsValue o.type o.sure v → AreFitted places ws → AreFitted (o ∷ places) (map (λ w. AnyOf ∷ w) ws)
  fitted_any o places v [] a h = tt
  fitted_any o places v (w ∷ ws) a ((vs, b, f), k) = ((v ∷ vs, (a, b), f), fitted_any o places v ws a k)

  pub values-split : (ps qs : List (Open T)) (n : ℕ) (zs : List MValue) → length ps ≡ n →
      AreValues IsValue (ps ++ qs) zs → AreValues IsValue ps (take n zs) × AreValues IsValue qs (drop n zs)
  values-split [] qs zero zs e a = (tt, a)
  values-split [] qs (suc n) zs e a = absurd (omega (arith, e))
  values-split (p ∷ ps) qs zero zs e a = absurd (omega (arith, e))
  values-split (p ∷ ps) qs (suc n) [] e a = absurd a
  values-split (p ∷ ps) qs (suc n) (z ∷ zs) e a = let r = values-split ps qs n zs (omega (arith, e)) a.1 in ((a.0, r.0), r.1)

  fitted_wrapped : (o : Open T) (places : List (Open T)) (p : MCtor) (named : List (List ℕ)) (x : MValue)
      (ws : List (List MWitness)) →
      IsType o.type → IsTrue (belongs (cx.set_of o.type) p) → IsValue o.type o.sure x → builds named p x ≡ true →
      AreLong (cx.arity p o.type + length places) ws → AreFitted (parts_open cx o p ++ places) ws → AreFitted (o ∷ places) (map (wrapped p named (cx.arity p o.type)) ws)
  fitted_wrapped o places p named x [] d b w f l h = tt
  fitted_wrapped o places p named x (u ∷ us) d b w f l ((zs, a, g), k) =
      let n = cx.arity p o.type in
      let s = values-split (parts_open cx o p) places n zs (length-below (Rattle.match_model.specs.Rows.part_open cx o p) n) a in
      let r = refill IsType IsValue cx values law o p named x (cx.set_of o.type) d refl b w f (take n zs) s.0 in
      let long : n ≤ length u = let e = l.0 in omega (arith, e) in
      let count : length (parts_under p r.value) ≡ n = (parts_values IsType IsValue cx values law o p named r.value (cx.set_of o.type) d refl b r.is r.build).0 in (
        (
          r.value ∷ drop n zs,
          (r.is, s.1),
          wrapped_fits p named n u r.value (drop n zs) (not_wild (cx.set_of o.type) p b) (law.arity o.type p d b) long (λ z. count)
              ∙ ap (λ y. y && all_fit (witnesses_of u) (parts_under p r.value ++ drop n zs)) r.build
              ∙ ap (λ ys. all_fit (witnesses_of u) (ys ++ drop n zs)) r.parts
              ∙ ap (all_fit (witnesses_of u)) (take-append-drop n zs) ∙ g,
        ),
        fitted_wrapped o places p named x us d b w f l.1 k,
      )

  mutual
    pub fitted_stacks : (places : List (Open T)) (hss : List (List (Head T))) (ws : List (List MWitness)) →
        Witnesses cx IsValue places hss ws → AreTypes IsType (cols places) → AllTyped cx (cols places) hss →
        AreMadeRows hss →
        (us : List MValue) → AreValues IsValue places us → AreFitted places ws
    fitted_stacks places hss ws (taken row rows) d h g us a = tt
    fitted_stacks places hss ws (covered ps rows e) d h g us a = tt
    fitted_stacks places hss ws (no_row ps) d h g us a = ((us, a, fit_any ps us a), tt)
    fitted_stacks places hss ws (anything o ps row rows xs e k) d h g [] a = absurd a
    fitted_stacks places hss ws (anything o ps row rows xs e k) d h g (u ∷ us) a =
        let hs = flat_map expand_row (row ∷ rows) in
        let t = expanded_typed cx (column_at [] o) (cols ps) (row ∷ rows) h in
        let mh = expand_made (row ∷ rows) g in
        fitted_any o ps u xs a.0 (fitted_stacks ps (map row_rest hs) xs k d.1 (rests_typed cx (column_at [] o) (cols ps) hs t) (rests_made hs mh) us a.1)
    fitted_stacks places hss ws (by_pieces o ps row rows pieces xs e p k) d h g [] a = absurd a
    fitted_stacks places hss ws (by_pieces o ps row rows pieces xs e p k) d h g (u ∷ us) a =
        let hs = flat_map expand_row (row ∷ rows) in
        let t = expanded_typed cx (column_at [] o) (cols ps) (row ∷ rows) h in
        let mh = expand_made (row ∷ rows) g in
        let n = expanded_none cx (column_at [] o) (cols ps) (row ∷ rows) h in
        let c = made_pieces (cx.set_of o.type) (column_of hs) pieces (values.made o.type d.0) (values.ascend o.type d.0) (heads_good cx (column_at [] o) (cols ps) hs t n) (column_made hs mh) p in
        fitted_pieces (named_in pieces) o ps hs pieces xs k d t mh (all_sided o ps (named_in pieces) hs pieces d.0 t n c.belong c.one_sided c.room) us a.1

    fitted_pieces : (named : List (List ℕ)) (o : Open T) (places : List (Open T)) (hss : List (List (Head T)))
        (pieces : List MCtor) (ws : List (List MWitness)) →
        PieceWitnesses cx IsValue named o places hss pieces ws →
        AreTypes IsType (cols (o ∷ places)) → AllTyped cx (cols (o ∷ places)) hss → AreMadeRows hss → AreAllSided o named hss pieces → (us : List MValue) → AreValues IsValue places us → AreFitted (o ∷ places) ws
    fitted_pieces named o places hss pieces ws (no_piece m q ps rows) d h g s us a = tt
    fitted_pieces named o places hss pieces ws (with_value m q ps rows p rest xs ys (x, w, f) k r) d h g s us a =
        let n = cx.arity p q.type in
        let parts = parts_values IsType IsValue cx values law q p m x (cx.set_of q.type) d.0 refl s.0.0 w f in
        let long : AreLong (n + length ps) xs =
        subst (λ i. AreLong i xs) (length-append (parts_open cx q p) ps ∙ ap (λ i. i + length ps) (length-below (Rattle.match_model.specs.Rows.part_open cx q p) n))
        (long_stacks (parts_open cx q p ++ ps) (all_specialised p n rows) xs k) in
        fitted-append (q ∷ ps) (map (wrapped p m n) xs) ys
        (fitted_wrapped q ps p m x xs d.0 s.0.0 w f long
        (fitted_stacks (parts_open cx q p ++ ps) (all_specialised p n rows) xs k (specials_types IsType IsValue cx law q ps p s.0.0 d) (specials_typed IsType IsValue cx law q ps p rows d.0 s.0.0 h) (special_made p n rows g)
        (parts_under p x ++ us) (values-append IsValue (parts_open cx q p) ps (parts_under p x) us parts.1 a)))
        (fitted_pieces m q ps rows rest ys r d h g s.1 us a)
    fitted_pieces named o places hss pieces ws (without_value m q ps rows p rest ys y r) d h g s us a =
        fitted_pieces m q ps rows rest ys r d h g s.1 us a
