-- One token further on.
use Rattle.std.proofs.Common.{◌≡◌, ◌∙◌, ap, sym, subst, refl, ℕ, zero, suc, ◌+◌, ◌-◌, ◌<◌, ◌≤◌, List, [], ◌∷◌, ◌++◌, length, drop, get_or, Bool, true, false, cond, nat_lt, append_assoc, arith, Option, Some, None}
use Rattle.std.proofs.lemmas.List.{at_drop_more, at_drop_all, append-nil, drop_more}
use Rattle.std.proofs.lemmas.Bool.{false≢true}
use Rattle.decl_lexer.specs.declared.marks.Mark.{Mark}
use Rattle.decl_lexer.specs.Begins.{Marked}
use Rattle.decl_lexer.specs.Lexing.{Placed, AreInOrder}
use Rattle.decl_syntax.specs.Units.{doubled_mark, halves, second_half, units}
use Rattle.explain_places.specs.declared.pieces.Class.TheVariants as classes
use Rattle.explain_places.specs.declared.pieces.Piece.{Piece}
use Rattle.explain_places.specs.declared.bodies.Body.{Body}
use Rattle.explain_places.specs.Pieces.{class_of, depth_behind, piece_of, pieces_from}
use Rattle.explain_places.specs.Bodies.{arrows_of, begins_body, bodies_from, body_at, ends_arm, waits_behind}
use Rattle.explain_places.specs.Spans.{Rise, pieces_past}

-- what an index past the end would read
abbrev pub no_piece : Piece
no_piece = record { class = classes.Function; depth = 0; from = 0; to = 0 }

-- ---- tokens with their brackets

-- one more token
pub pieces_more : (depth : ℕ) (t : Placed) (rest behind : List Placed) (done all : List Piece) → rest ≡ t ∷ behind → done ++ pieces_from depth rest ≡ all →
    (done ++ piece_of depth t ∷ []) ++ pieces_from (depth_behind depth (class_of t.lexeme)) behind ≡ all
unfolding pieces_from
pieces_more depth t rest behind done all is e =
    append_assoc done (piece_of depth t ∷ []) (pieces_from (depth_behind depth (class_of t.lexeme)) behind)
    ∙ ap (λ r. done ++ pieces_from depth r) (sym is) ∙ e

-- all tokens
pub pieces_all : (depth : ℕ) (rest : List Placed) (done all : List Piece) → rest ≡ [] → done ++ pieces_from depth rest ≡ all → done ≡ all
unfolding pieces_from
pieces_all depth rest done all is e = sym (append-nil done) ∙ ap (λ r. done ++ pieces_from depth r) (sym is) ∙ e

-- ---- bodies

bodies_split : (waits : Bool) (p : Piece) (ps : List Piece) (t : Bool) → begins_body waits (p ∷ ps) ≡ t →
    bodies_from waits (p ∷ ps) ≡ cond t (body_at p ps ∷ bodies_from (waits_behind waits (p ∷ ps)) ps) (bodies_from (waits_behind waits (p ∷ ps)) ps)
unfolding bodies_from
bodies_split waits p ps t e =
    let rest = bodies_from (waits_behind waits (p ∷ ps)) ps in
    ap (λ s. cond s (body_at p ps ∷ rest) rest) e

-- a body begins there
pub bodies_yes : (waits next : Bool) (pieces : List Piece) (done all : List Body) (i : ℕ) → i < length pieces → begins_body waits (drop i pieces) ≡ true →
    next ≡ waits_behind waits (drop i pieces) → done ++ bodies_from waits (drop i pieces) ≡ all →
    (done ++ body_at (get_or pieces i no_piece) (drop (i + 1) pieces) ∷ []) ++ bodies_from next (drop (i + 1) pieces) ≡ all
bodies_yes waits next pieces done all i lt t n e =
    let p = get_or pieces i no_piece in
    let rest = drop (i + 1) pieces in
    let split = drop_more pieces i no_piece lt in
    append_assoc done (body_at p rest ∷ []) (bodies_from next rest)
    ∙ ap (λ w. done ++ (body_at p rest ∷ bodies_from w rest)) (n ∙ ap (waits_behind waits) split)
    ∙ ap (λ r. done ++ r) (sym (ap (bodies_from waits) split ∙ bodies_split waits p rest true (ap (begins_body waits) (sym split) ∙ t)))
    ∙ e

-- none begins there
pub bodies_no : (waits next : Bool) (pieces : List Piece) (done all : List Body) (i : ℕ) → i < length pieces → begins_body waits (drop i pieces) ≡ false →
    next ≡ waits_behind waits (drop i pieces) → done ++ bodies_from waits (drop i pieces) ≡ all →
    done ++ bodies_from next (drop (i + 1) pieces) ≡ all
bodies_no waits next pieces done all i lt t n e =
    let p = get_or pieces i no_piece in
    let rest = drop (i + 1) pieces in
    let split = drop_more pieces i no_piece lt in
    ap (λ w. done ++ bodies_from w rest) (n ∙ ap (waits_behind waits) split)
    ∙ ap (λ r. done ++ r) (sym (ap (bodies_from waits) split ∙ bodies_split waits p rest false (ap (begins_body waits) (sym split) ∙ t)))
    ∙ e

-- at the end
pub bodies_end : (waits : Bool) (pieces : List Piece) (done all : List Body) (i : ℕ) → length pieces ≤ i → done ++ bodies_from waits (drop i pieces) ≡ all → done ≡ all
unfolding bodies_from
bodies_end waits pieces done all i past e =
    sym (append-nil done) ∙ ap (λ r. done ++ r) (sym (at_drop_all (bodies_from waits) pieces i past)) ∙ e

-- ---- arms

arrows_split : (p : Piece) (ps : List Piece) (t : Bool) → ends_arm p ≡ t → arrows_of (p ∷ ps) ≡ cond t (p.from ∷ arrows_of ps) (arrows_of ps)
unfolding arrows_of
arrows_split p ps t e = ap (λ s. cond s (p.from ∷ arrows_of ps) (arrows_of ps)) e

-- the pattern of an arm ends there
pub arrows_yes : (pieces : List Piece) (done all : List ℕ) (i : ℕ) → i < length pieces → ends_arm (get_or pieces i no_piece) ≡ true →
    done ++ arrows_of (drop i pieces) ≡ all → (done ++ (get_or pieces i no_piece).from ∷ []) ++ arrows_of (drop (i + 1) pieces) ≡ all
arrows_yes pieces done all i lt t e =
    let p = get_or pieces i no_piece in
    let rest = drop (i + 1) pieces in
    append_assoc done (p.from ∷ []) (arrows_of rest)
    ∙ ap (λ r. done ++ r) (sym (ap arrows_of (drop_more pieces i no_piece lt) ∙ arrows_split p rest true t)) ∙ e

-- none ends there
pub arrows_no : (pieces : List Piece) (done all : List ℕ) (i : ℕ) → i < length pieces → ends_arm (get_or pieces i no_piece) ≡ false →
    done ++ arrows_of (drop i pieces) ≡ all → done ++ arrows_of (drop (i + 1) pieces) ≡ all
arrows_no pieces done all i lt t e =
    let p = get_or pieces i no_piece in
    let rest = drop (i + 1) pieces in
    ap (λ r. done ++ r) (sym (ap arrows_of (drop_more pieces i no_piece lt) ∙ arrows_split p rest false t)) ∙ e

-- at the end
pub arrows_end : (pieces : List Piece) (done all : List ℕ) (i : ℕ) → length pieces ≤ i → done ++ arrows_of (drop i pieces) ≡ all → done ≡ all
unfolding arrows_of
arrows_end pieces done all i past e = sym (append-nil done) ∙ ap (λ r. done ++ r) (sym (at_drop_all arrows_of pieces i past)) ∙ e

-- ---- order

-- a list behind a token that begins no earlier than a byte, and the tokens behind it no earlier than that one
low_more : (from depth : ℕ) (t : Placed) (ts : List Placed) → from ≤ t.from →
    ((depth k : ℕ) (d : Piece) → k < length (pieces_from depth ts) → from ≤ (get_or (pieces_from depth ts) k d).from) →
    (k : ℕ) (d : Piece) → k < length (pieces_from depth (t ∷ ts)) → from ≤ (get_or (pieces_from depth (t ∷ ts)) k d).from
unfolding pieces_from
low_more from depth t ts first more zero d lt = first
low_more from depth t ts first more (suc k) d lt = more (depth_behind depth (class_of t.lexeme)) k d (omega (arith, lt))

-- the same where the list rises
rise_more : (depth : ℕ) (t : Placed) (ts : List Placed) →
    ((depth k : ℕ) (d : Piece) → k < length (pieces_from depth ts) → t.from ≤ (get_or (pieces_from depth ts) k d).from) →
    ((depth : ℕ) → Rise (pieces_from depth ts)) → Rise (pieces_from depth (t ∷ ts))
unfolding pieces_from
rise_more depth t ts low up zero zero d le lt = omega arith
rise_more depth t ts low up zero (suc j) d le lt = low (depth_behind depth (class_of t.lexeme)) j d (omega (arith, lt))
rise_more depth t ts low up (suc i) zero d le lt = absurd (omega (arith, le))
rise_more depth t ts low up (suc i) (suc j) d le lt = up (depth_behind depth (class_of t.lexeme)) i j d (omega (arith, le)) (omega (arith, lt))

none_low : (from depth k : ℕ) (d : Piece) → k < length (pieces_from depth []) → from ≤ (get_or (pieces_from depth []) k d).from
unfolding pieces_from
none_low from depth k d lt = absurd (omega arith)

none_rise : (depth : ℕ) → Rise (pieces_from depth [])
unfolding pieces_from
none_rise depth i j d le lt = absurd (omega arith)

no_units : units [] ≡ []
unfolding units
no_units = refl

-- a token, or its two marks, before the others
halves_low : (from depth : ℕ) (t : Placed) (m : Option Mark) (ts : List Placed) → from ≤ t.from → t.from < t.to →
    ((depth k : ℕ) (d : Piece) → k < length (pieces_from depth ts) → t.to ≤ (get_or (pieces_from depth ts) k d).from) →
    (k : ℕ) (d : Piece) → k < length (pieces_from depth (halves t m ++ ts)) → from ≤ (get_or (pieces_from depth (halves t m ++ ts)) k d).from
halves_low from depth t None ts first wide more k d lt =
    low_more from depth t ts first (λ e k d l. omega (arith, first, wide, more e k d l)) k d lt
halves_low from depth t (Some mark) ts first wide more k d lt =
    let one : Placed = record { lexeme = Marked mark; from = t.from; to = t.to - 1 } in
    low_more from depth one (second_half mark t.to ∷ ts) first
    (λ e. low_more from e (second_half mark t.to) ts (omega (arith, first, wide)) (λ e k d l. omega (arith, first, wide, more e k d l))) k d lt

halves_rise : (depth : ℕ) (t : Placed) (m : Option Mark) (ts : List Placed) → t.from < t.to →
    ((depth k : ℕ) (d : Piece) → k < length (pieces_from depth ts) → t.to ≤ (get_or (pieces_from depth ts) k d).from) →
    ((depth : ℕ) → Rise (pieces_from depth ts)) → Rise (pieces_from depth (halves t m ++ ts))
halves_rise depth t None ts wide low up = rise_more depth t ts (λ e k d l. omega (arith, wide, low e k d l)) up
halves_rise depth t (Some mark) ts wide low up =
    let one : Placed = record { lexeme = Marked mark; from = t.from; to = t.to - 1 } in
    rise_more depth one (second_half mark t.to ∷ ts)
    (λ e. low_more t.from e (second_half mark t.to) ts (omega (arith, wide)) (λ e k d l. omega (arith, wide, low e k d l)))
    (λ e. rise_more e (second_half mark t.to) ts (λ e k d l. omega (arith, wide, low e k d l)) up)

units_more : (t : Placed) (ts : List Placed) → units (t ∷ ts) ≡ halves t (doubled_mark t.lexeme) ++ units ts
unfolding units
units_more t ts = refl

-- tokens in order begin no earlier than the first byte
low : (from to : ℕ) (ts : List Placed) → AreInOrder from to ts → (depth k : ℕ) (d : Piece) → k < length (pieces_from depth (units ts)) →
    from ≤ (get_or (pieces_from depth (units ts)) k d).from
low from to [] o depth k d = subst (λ us. k < length (pieces_from depth us) → from ≤ (get_or (pieces_from depth us) k d).from) (sym no_units) (none_low from depth k d)
low from to (t ∷ ts) o depth k d =
    subst (λ us. k < length (pieces_from depth us) → from ≤ (get_or (pieces_from depth us) k d).from) (sym (units_more t ts))
    (halves_low from depth t (doubled_mark t.lexeme) (units ts) o.0 o.1 (low t.to to ts o.2) k d)

-- tokens in order rise
pub in_order_rise : (from to : ℕ) (ts : List Placed) → AreInOrder from to ts → (depth : ℕ) → Rise (pieces_from depth (units ts))
in_order_rise from to [] o depth = subst (λ us. Rise (pieces_from depth us)) (sym no_units) (none_rise depth)
in_order_rise from to (t ∷ ts) o depth =
    subst (λ us. Rise (pieces_from depth us)) (sym (units_more t ts))
    (halves_rise depth t (doubled_mark t.lexeme) (units ts) o.1 (low t.to to ts o.2) (in_order_rise t.to to ts o.2))

-- ---- looking up

past_yes : (at : ℕ) (p : Piece) (ps : List Piece) → nat_lt p.from at ≡ true → pieces_past at (p ∷ ps) ≡ pieces_past at ps
past_yes at p ps e = ap (λ t. cond t (pieces_past at ps) (p ∷ ps)) e

past_no : (at : ℕ) (p : Piece) (ps : List Piece) → nat_lt p.from at ≡ false → pieces_past at (p ∷ ps) ≡ p ∷ ps
past_no at p ps e = ap (λ t. cond t (pieces_past at ps) (p ∷ ps)) e

-- the tokens from the point on at which the tests turn
pub past_point : (at : ℕ) (ps : List Piece) (i : ℕ) → i ≤ length ps →
    ((k : ℕ) (d : Piece) → 0 ≤ k → k < i → nat_lt (get_or ps k d).from at ≡ true) →
    ((k : ℕ) (d : Piece) → i ≤ k → k < length ps → nat_lt (get_or ps k d).from at ≡ false) → drop i ps ≡ pieces_past at ps
past_point at [] zero le low high = refl
past_point at [] (suc i) le low high = refl
past_point at (p ∷ ps) zero le low high = sym (past_no at p ps (high zero p (omega arith) (omega arith)))
past_point at (p ∷ ps) (suc i) le low high =
    past_point at ps i (omega (arith, le)) (λ k d a b. low (suc k) d (omega arith) (omega (arith, b))) (λ k d a b. high (suc k) d (omega (arith, a)) (omega (arith, b)))
    ∙ sym (past_yes at p ps (low zero p (omega arith) (omega arith)))
