-- Rows of which all heads pass a test once a piece is entered, where wildcards that no pattern wrote pass it.
use Rattle.std.proofs.Common.{◌≡◌, ◌<◌, ℕ, zero, suc, ◌+◌, ◌-◌, Bool, true, false, not, ◌&&◌, List, [], ◌∷◌, ◌++◌, map, take, drop, length, cond, Some, None, refl, sym, ap, ◌∙◌, arith}
use Rattle.std.proofs.lemmas.List.Folds.{list_all-append}
use Rattle.std.specs.List.{list_all}
use Rattle.match_model.specs.ArenaPatterns.{de_pat, de_pats_list}
use Rattle.match_model.specs.Constructors.{MCtor, RowCtor, LongerShape, WildCtor}
use Rattle.match_model.specs.Matrices.{MRow, bind_at, head_binds}
use Rattle.match_model.specs.Places.{MStep}
use Rattle.match_model.specs.Rows.{Head, wildcards, heads_of}
use Rattle.match_model.specs.Steps.{Replacement, specialise_head, replacements_at, row_replaced, rows_at, with_head, with_others}
use Rattle.match_model.proofs.Basics.{both, untrue}
use Rattle.pattern_matrix.specs.Sparse.{head_has}
use Rattle.decision_tree.specs.Cutting.{head_there, parts_pass, takes_by}

off : (b : Bool) → not b ≡ true → b ≡ false
off true e = untrue e
off false e = refl

module _ {T : Type 0} (q : Head T → Bool) (none : q None ≡ true) where
  all-take : (n : ℕ) (hs : List (Head T)) → list_all q hs ≡ true → list_all q (take n hs) ≡ true
  all-take zero hs e = refl
  all-take (suc n) [] e = refl
  all-take (suc n) (h ∷ hs) e =
      let k = both (q h) (list_all q hs) e in
      ap (λ b. b && list_all q (take n hs)) k.0 ∙ all-take n hs k.1

  all-drop : (n : ℕ) (hs : List (Head T)) → list_all q hs ≡ true → list_all q (drop n hs) ≡ true
  all-drop zero hs e = e
  all-drop (suc n) [] e = refl
  all-drop (suc n) (h ∷ hs) e = all-drop n hs (both (q h) (list_all q hs) e).1

  all-wildcards : (n : ℕ) → list_all q (wildcards n) ≡ true
  all-wildcards zero = refl
  all-wildcards (suc n) = ap (λ b. b && list_all q (wildcards n)) none ∙ all-wildcards n

  all-both : (xs ys : List (Head T)) → list_all q xs ≡ true → list_all q ys ≡ true → list_all q (xs ++ ys) ≡ true
  all-both xs ys e f = list_all-append q xs ys ∙ ap (λ b. b && list_all q ys) e ∙ f

  -- the heads of its parts
  all-parts : (c : MCtor) (hs : List (Head T)) (n : ℕ) → list_all q hs ≡ true → list_all q (heads_of c hs n) ≡ true
  all-parts (RowCtor (LongerShape f b)) hs n e =
      all-both (take f hs) (wildcards (n - (f + b)) ++ drop f hs) (all-take f hs e)
      (all-both (wildcards (n - (f + b))) (drop f hs) (all-wildcards (n - (f + b))) (all-drop f hs e))
  all-parts WildCtor hs n e = all-wildcards n
  all-parts _ hs n e = e

  -- one thing stands in place of heads, and binds what the head of the column does
  abbrev IsPut : List (Replacement T) → Head T → Type 0
  IsPut ys h = (y : Replacement T) × (ys ≡ y ∷ []) × (list_all q y.heads ≡ true)
      × ((place : List MStep) → map (bind_at place) y.binds ≡ head_binds place h)

  -- what stands in place of the head
  passed-head : (p : MCtor) (n : ℕ) (h : Head T) → parts_pass q h ≡ true → head_has p h ≡ true →
      IsPut (specialise_head p n h) h
  passed-head p n None flat has =
      (record { heads = wildcards n; chosen = []; binds = [] }, refl, all-wildcards n, λ place. refl)
  passed-head p n (Some (de_pat c t uid at subs binds)) flat has =
      let y : Replacement T = record { heads = heads_of c (map Some (de_pats_list subs)) n; chosen = []; binds = binds } in
      (y, ap (λ b. cond b (y ∷ []) []) has, all-parts c (map Some (de_pats_list subs)) n flat, λ place. refl)

  -- what stands in place of all heads
  passed-heads : (p : MCtor) (n i : ℕ) (hs : List (Head T)) → i < length hs → parts_pass q (head_there i hs) ≡ true →
      head_has p (head_there i hs) ≡ true → list_all q (take i hs) ≡ true → list_all q (drop (i + 1) hs) ≡ true →
      IsPut (replacements_at (specialise_head p n) i hs) (head_there i hs)
  passed-heads p n i [] l flat has before behind = absurd (omega (arith, l))
  passed-heads p n zero (h ∷ hs) l flat has before behind =
      let y = passed-head p n h flat has in
      (with_others hs y.0, ap (map (with_others hs)) y.1, all-both y.0.heads hs y.2 behind, y.3)
  passed-heads p n (suc i) (h ∷ hs) l flat has before behind =
      let k = both (q h) (list_all q (take i hs)) before in
      let more : suc i + 1 ≡ suc (i + 1) = omega arith in
      let y = passed-heads p n i hs (omega (arith, l)) flat has k.1
      (ap (λ m. list_all q (drop m (h ∷ hs))) (sym more) ∙ behind) in
      (with_head h y.0, ap (map (with_head h)) y.1, ap (λ b. b && list_all q y.0.heads) k.0 ∙ y.2, y.3)

  -- what the row becomes where a piece that it has is entered
  pub record IsPassed (rows : List (MRow T)) (place : List MStep) (i : ℕ) (r : MRow T) : Type 0 where
    pub row : MRow T
    pub alone : rows ≡ row ∷ []
    pub passes : list_all q row.heads ≡ true
    pub unguarded : row.guarded ≡ false
    pub arm : row.arm ≡ r.arm
    pub caught : row.caught ≡ r.caught ++ head_binds place (head_there i r.heads)

  pub passed-row : (p : MCtor) (n : ℕ) (place : List MStep) (i : ℕ) (r : MRow T) → i < length r.heads →
      takes_by q i r ≡ true → head_has p (head_there i r.heads) ≡ true →
      IsPassed (rows_at (specialise_head p n) place i (r ∷ [])) place i r
  passed-row p n place i r l takes has =
      let wild : Bool = list_all q (take i r.heads) && list_all q (drop (i + 1) r.heads) in
      let a = both (not r.guarded) (parts_pass q (head_there i r.heads) && wild) takes in
      let b = both (parts_pass q (head_there i r.heads)) wild a.1 in
      let c = both (list_all q (take i r.heads)) (list_all q (drop (i + 1) r.heads)) b.1 in
      let y = passed-heads p n i r.heads l b.0 has c.0 c.1 in
      record {
        row = row_replaced place r y.0;
        alone = ap (λ ys. map (row_replaced place r) ys ++ []) y.1;
        passes = y.2;
        unguarded = off r.guarded a.0;
        arm = refl;
        caught = ap (λ bs. r.caught ++ bs) (y.3 place);
      }
