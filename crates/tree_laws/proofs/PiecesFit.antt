-- Each head of a column fits each of its pieces.
use Rattle.std.proofs.Common.{◌≡◌, ℕ, zero, suc, Bool, true, false, ◌&&◌, ◌||◌, List, [], ◌∷◌, Some, None, slice_get, refl, sym, ◌∙◌, subst, IsTrue}
use Rattle.std.specs.List.{All}
use Rattle.match_model.specs.Values.{MValue}
use Rattle.match_model.specs.Constructors.{FixedShape, LongerShape, MCtor, MSet, SingleCtor, PointCtor, LaterCtor, OtherTextCtor, WildCtor, OrCtor, VariantCtor, FlagCtor, NumbersCtor, TextCtor, RowCtor, belongs, has_piece}
use Rattle.match_model.specs.Contexts.{Context}
use Rattle.match_model.specs.ContextLaws.{ValuesLaw}
use Rattle.match_model.specs.ArenaPatterns.{de_pat}
use Rattle.match_model.specs.Pieces.{ArePieces}
use Rattle.match_model.specs.Rows.{Head, is_wild_ctor, first_ctor}
use Rattle.match_model.specs.Matrices.{MColumn, MRow}
use Rattle.match_model.specs.PieceStates.{named_in}
use Rattle.match_model.specs.WellTyped.{is_written, IsTyped, IsHeadTyped}
use Rattle.match_model.proofs.Basics.{untrue}
use Rattle.match_model.specs.Keys.{Decision}
use Rattle.match_model.specs.Lists.{Every, Among}
use Rattle.keyed_rows.specs.Dividing.{GoodAt}
use Rattle.keyed_rows.proofs.Lists.{every-to}
use Rattle.keyed_rows.proofs.Parting.{among-every}
use Rattle.keyed_rows.proofs.RowOrder.{every-among}
use Rattle.match_model.specs.Lowering.{ctors_at}
use Rattle.constructor_sets.specs.Columns.{is_head, IsOneSided, HasRoomFor, AreColumnPieces}
use Rattle.match_model.specs.Made.{IsMade}
use Rattle.constructor_sets.proofs.Whole.{made_pieces}
use Rattle.keyed_steps.specs.Fits.{IsPlain, HasRoom, FitsPiece, HeadFits}
use Rattle.keyed_steps.specs.Good.{IsMadeHead, IsPlainHead, IsGoodRow, IsGoodColumn, IsReady}
use Rattle.keyed_steps.specs.Piecewise.{PiecesFit, IsFit}
use Rattle.keyed_steps.proofs.Standing.{column-at, head-at, good-at, good-from}
use Rattle.tree_laws.proofs.InColumn.{all-from, all-among, OnCtor, column-every, column-among}

-- a constructor of the column: one that patterns write, of the set, and made
pub record IsColumnCtor (set : MSet) (k : MCtor) : Type 0 where
  pub belong : belongs set k ≡ true
  pub written : is_written k ≡ true
  pub made : IsMade k

is-head-by : (set : MSet) (k : MCtor) → IsColumnCtor set k → is_head set k ≡ true
is-head-by set k h = go (is_wild_ctor k)
  where
    go : (b : Bool) → (b || (belongs set k && is_written k)) ≡ true
    go true = refl
    go false = rw (h.belong, h.written) refl

room-same : (p k : MCtor) → HasRoomFor p k → HasRoom p k
room-same (RowCtor (LongerShape f b)) (RowCtor (LongerShape g c)) h = h
room-same (RowCtor (LongerShape f b)) (RowCtor (FixedShape n)) h = tt
room-same (RowCtor (LongerShape f b)) SingleCtor h = tt
room-same (RowCtor (LongerShape f b)) _ h = tt
room-same (RowCtor (FixedShape n)) k h = tt
room-same SingleCtor k h = tt
room-same _ k h = tt

wild-fits : (named : List (List ℕ)) (p : MCtor) → FitsPiece named p WildCtor
wild-fits named p = record { plain = tt; sided = λ u b. refl; room = λ e. room p }
  where
    room : (q : MCtor) → HasRoom q WildCtor
    room (RowCtor (LongerShape f g)) = tt
    room _ = tt

module _ {T : Type 0} (IsType : T → Type 0) (cx : Context T) (V : T → Bool → MValue → Type 0)
    (values : ValuesLaw IsType V cx) (decides : ℕ → Decision) where
  typed-ctor : (t : T) (h : Head T) → IsHeadTyped cx t h → IsPlainHead h → IsMadeHead h →
      OnCtor (IsColumnCtor (cx.set_of t)) (first_ctor (h ∷ []))
  typed-ctor t None ty p m = tt
  typed-ctor t (Some (de_pat k u uid at subs binds)) ty p m = go k ty p m.0
    where
      halves : (a b : Bool) → (a && b) ≡ true → (a ≡ true) × (b ≡ true)
      halves true b h = (refl, h)
      halves false b h = untrue h

      by : (k : MCtor) → (belongs (cx.set_of t) k && is_written k) ≡ true → IsMade k → IsColumnCtor (cx.set_of t) k
      by k h m =
          let s = halves (belongs (cx.set_of t) k) (is_written k) h in record { belong = s.0; written = s.1; made = m }

      go : (k : MCtor) → IsTyped cx t (de_pat k u uid at subs binds) → IsPlain k → IsMade k →
          OnCtor (IsColumnCtor (cx.set_of t)) (first_ctor (Some (de_pat k u uid at subs binds) ∷ []))
      go WildCtor ty p m = tt
      go OrCtor ty p m = elim p [ ]
      go SingleCtor ty p m = by SingleCtor ty.2.0 m
      go PointCtor ty p m = by PointCtor ty.2.0 m
      go LaterCtor ty p m = by LaterCtor ty.2.0 m
      go OtherTextCtor ty p m = by OtherTextCtor ty.2.0 m
      go (VariantCtor x) ty p m = by (VariantCtor x) ty.2.0 m
      go (FlagCtor x) ty p m = by (FlagCtor x) ty.2.0 m
      go (NumbersCtor x) ty p m = by (NumbersCtor x) ty.2.0 m
      go (TextCtor x) ty p m = by (TextCtor x) ty.2.0 m
      go (RowCtor x) ty p m = by (RowCtor x) ty.2.0 m

  every-at : (P : Head T → Type 0) (j : ℕ) (hs : List (Head T)) (h : Head T) → Every P hs → slice_get hs j ≡ Some h →
      P h
  every-at P j [] h p e = cc
  every-at P zero (x ∷ hs) h p e = let same : x ≡ h = cc in subst P same p.0
  every-at P (suc j) (x ∷ hs) h p e = every-at P j hs h p.1 e

  module _ (i : ℕ) (c : MColumn T) (columns : List (MColumn T)) (rows : List (MRow T))
      (ready : IsReady IsType cx decides i columns rows) (there : slice_get columns i ≡ Some c) where
    one-head : (x y : Head T) → Some x ≡ Some y → x ≡ y
    one-head x y e = cc

    pub column-ctors : Every (IsColumnCtor (cx.set_of c.type)) (ctors_at i rows)
    column-ctors =
        column-every i (IsColumnCtor (cx.set_of c.type)) rows (every-among
        (λ r. GoodAt (λ h. OnCtor (IsColumnCtor (cx.set_of c.type)) (first_ctor (h ∷ []))) i r.heads) rows (λ r a.
        good-from (λ h. OnCtor (IsColumnCtor (cx.set_of c.type)) (first_ctor (h ∷ []))) i r.heads (λ h e.
        (let g : IsGoodRow cx decides columns r = among-every
        (IsGoodRow cx decides columns) rows r ready.good.rows_are a in
        let k = head-at cx columns r.heads i c g.typed there in
        typed-ctor c.type h (subst (IsHeadTyped cx c.type) (one-head k.0 h (sym k.1 ∙ e)) k.2)
        (good-at IsPlainHead i r.heads h (among-every (λ x. GoodAt IsPlainHead i x.heads) rows r ready.plain a) e)
        (every-at (IsMadeHead) i r.heads h g.made e)))))

    pub column-heads : All (λ h. IsTrue (is_head (cx.set_of c.type) h)) (ctors_at i rows)
    column-heads =
        all-from (λ h. IsTrue (is_head (cx.set_of c.type) h)) (ctors_at i rows)
        (every-to (IsColumnCtor (cx.set_of c.type)) (λ h. IsTrue (is_head (cx.set_of c.type) h)) (ctors_at i rows)
        (is-head-by (cx.set_of c.type)) column-ctors)

    pub type-of : IsType c.type
    type-of =
        let column : IsGoodColumn IsType c = column-at
        (IsGoodColumn IsType) columns i c ready.good.columns_are there in column.type

    column-are : (pieces : List MCtor) → ArePieces (cx.set_of c.type) (ctors_at i rows) pieces →
        AreColumnPieces (cx.set_of c.type) (ctors_at i rows) pieces
    column-are pieces are =
        made_pieces (cx.set_of c.type) (ctors_at i rows) pieces (values.made c.type type-of)
        (values.ascend c.type type-of) column-heads
        (all-from IsMade (ctors_at i rows) (every-to (IsColumnCtor (cx.set_of c.type)) IsMade (ctors_at i rows)
        (λ k h. h.made) column-ctors)) are

    pub fit-here : (pieces : List MCtor) (p : MCtor) → ArePieces (cx.set_of c.type) (ctors_at i rows) pieces →
        Among p pieces → IsFit cx i c rows pieces p
    fit-here pieces p are a = record {
      belong = all-among (λ q. IsTrue (belongs (cx.set_of c.type) q)) pieces p k.belong a;
      fits =
          every-among (λ r. GoodAt (HeadFits (named_in pieces) p) i r.heads) rows
          (λ r j. good-from (HeadFits (named_in pieces) p) i r.heads (λ h e. one r h j e));
    }
      where
        k : AreColumnPieces (cx.set_of c.type) (ctors_at i rows) pieces
        k = column-are pieces are

        wild : (d : MCtor) → is_wild_ctor d ≡ true → d ≡ WildCtor
        wild WildCtor w = refl
        wild _ w = untrue w

        one : (r : MRow T) (h : Head T) → Among r rows → slice_get r.heads i ≡ Some h → HeadFits (named_in pieces) p h
        one r None j e = tt
        one r (Some (de_pat d t uid at subs binds)) j e = go (is_wild_ctor d) refl
          where
            go : (b : Bool) → is_wild_ctor d ≡ b → FitsPiece (named_in pieces) p d
            go true w = subst (FitsPiece (named_in pieces) p) (sym (wild d w)) (wild-fits (named_in pieces) p)
            go false w =
                let m : Among d (ctors_at i rows) = column-among i rows r d t uid at subs binds j e w in
                record {
                  plain =
                      good-at IsPlainHead i r.heads (Some (de_pat d t uid at subs binds))
                      (among-every (λ x. GoodAt IsPlainHead i x.heads) rows r ready.plain j) e;
                  sided =
                      all-among (IsOneSided (named_in pieces) p) (ctors_at i rows) d
                      (all-among (λ q. All (IsOneSided (named_in pieces) q) (ctors_at i rows)) pieces p k.one_sided a)
                      m;
                  room =
                      λ has. room-same p d (all-among (λ x. IsTrue (has_piece x p) → HasRoomFor p x)
                      (ctors_at i rows) d (all-among (λ q. All (λ x. IsTrue (has_piece x q) → HasRoomFor q x)
                      (ctors_at i rows)) pieces p k.room a) m has);
                }

  pub pieces-fit : PiecesFit IsType cx decides
  pieces-fit i c columns rows pieces p ready there are a = fit-here i c columns rows ready there pieces p are a
