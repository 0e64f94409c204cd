-- A lawful context is an engine, where its pieces fit the heads of each column and cut it once.
use Rattle.std.proofs.Common.{ℕ, Bool}
use Rattle.match_model.specs.Values.{MValue}
use Rattle.match_model.specs.Contexts.{Context}
use Rattle.match_model.specs.ContextLaws.{PartsLaw, ValuesLaw}
use Rattle.match_model.specs.PieceStates.{named_in}
use Rattle.match_model.specs.Keys.{Decision}
use Rattle.keyed_steps.specs.Engine.{IsEngine}
use Rattle.keyed_steps.specs.Good.{IsGoodColumn, IsGood, IsReady}
use Rattle.keyed_steps.specs.Piecewise.{PiecesFit, PiecesCut, IsFit, IsCutOnce}
use Rattle.keyed_steps.proofs.PieceParts.{piece-opened}
use Rattle.keyed_steps.proofs.Standing.{column-at}
use Rattle.keyed_steps.proofs.Same.{expanded-same, dropped-same, entered-same, counted}
use Rattle.keyed_steps.proofs.Caught.{expanded-caught, dropped-caught, entered-caught}
use Rattle.keyed_steps.proofs.Leaves.{leaf, others}
use Rattle.keyed_steps.proofs.Keeping.{expanded, dropped, entered}

module _ {T : Type 0} (IsType : T → Type 0) (cx : Context T) (V : T → Bool → MValue → Type 0)
    (law : PartsLaw IsType V cx) (values : ValuesLaw IsType V cx) (decides : ℕ → Decision)
    (fit : PiecesFit IsType cx decides)
    (cut : PiecesCut IsType cx V decides) where
  pub lawful-engine : IsEngine cx V decides (IsGood IsType cx decides) (IsReady IsType cx decides)
  lawful-engine = record {
    leaf = λ columns r rows v good w held caught. leaf IsType cx V decides columns r rows v good w held caught;
    others = λ columns r rows good. others IsType cx V decides columns r rows good;
    expanded =
        λ i c columns rows next good there order. expanded IsType cx V law values decides fit i c columns rows next
        good there order;
    expanded_same =
        λ i c columns rows next v good there order held. expanded-same IsType cx V law values decides fit i c columns
        rows next v good there order held;
    expanded_caught =
        λ i c columns rows next v good there order held caught. expanded-caught IsType cx V decides i c columns there
        rows next v good order held caught;
    dropped =
        λ i c columns rows next ready there order. dropped IsType cx V law values decides fit i c columns rows next
        ready there order;
    dropped_same =
        λ i c columns rows next pieces v u ready there order held part passed. dropped-same IsType cx V law values
        decides fit i c columns rows next pieces v u ready there order held part passed;
    dropped_caught =
        λ i c columns rows next v ready there order held caught. dropped-caught IsType cx V decides i c columns there
        rows next v ready order held caught;
    cut = λ i c columns rows pieces ready there are some.
        (let k : IsCutOnce cx V i c rows pieces = cut i c columns rows pieces ready there are some in
        let column : IsGoodColumn IsType c = column-at (IsGoodColumn IsType) columns i c ready.good.columns_are there in
        record {
          distinct = k.distinct;
          one = k.one;
          case = k.case;
          opened =
              λ p a value. (let f : IsFit cx i c rows pieces p = fit i c columns rows pieces p ready there are a in
              piece-opened IsType cx V law values c column.type (named_in pieces) p f.belong value);
        });
    entered =
        λ i c columns rows next pieces p ready there are a order. entered IsType cx V law values decides fit i c
        columns rows next pieces p ready there are a order;
    counted =
        λ i c columns rows pieces p ready there are a. counted IsType cx V law values decides fit i c columns rows
        pieces p ready there are a;
    entered_same =
        λ i c columns rows next pieces p v u ready there are a order held part built. entered-same IsType cx V law
        values decides fit i c columns rows next pieces p v u ready there are a order held part built;
    entered_caught =
        λ i c columns rows next pieces p v u ready there are a order held part built caught. entered-caught IsType cx V
        decides i c columns there fit rows next pieces p v u ready are a order part built caught;
  }
