-- A function that is read is spelled so, and one that is spelled so is read.
use Rattle.std.proofs.Common.{◌≡◌, ℕ, ◌+◌, ◌<◌, ◌≤◌, Bool, true, false, cond, List, ◌∷◌, length, sum_by, Option, Some, None, refl, ap, subst, ◌∙◌, arith, inl, inr}
use Rattle.std.specs.Cmp.Lexicographic.{bytes_decides}
use Rattle.decl_lexer.specs.declared.marks.Mark.TheVariants as marks
use Rattle.decl_lexer.specs.declared.words.Word.TheVariants as words
use Rattle.decl_lexer.specs.Begins.{Named}
use Rattle.decl_lexer.specs.Lexing.{Placed}
use Rattle.decl_syntax.specs.Units.{behind, flag_at, token_at, name_of, from_of, is_mark, is_word}
use Rattle.decl_syntax.specs.Types.{TypeTree}
use Rattle.decl_syntax.specs.Patterns.{PatternTree}
use Rattle.decl_syntax.specs.PatternGrammar.{SpellsPattern}
use Rattle.decl_syntax.specs.TypeGrammar.{SpellsType}
use Rattle.decl_syntax.specs.TypeReading.{type_at}
use Rattle.decl_syntax.specs.Grammar.{IsMark, IsWord, Maybe}
use Rattle.decl_syntax.proofs.Joined.{some_is, bind_some, either_some, given, word_only, behind_first, behind_some, none_behind, next_is_not, flag_sound, flag_complete, maybe_shrinks, Joined}
use Rattle.decl_syntax.proofs.TypeLaws.{known_types, name_some}
use Rattle.decl_parser.specs.declared.runs.Until.TheVariants as until
use Rattle.decl_syntax.specs.Items.{ArmTree}
use Rattle.decl_parser.specs.ArmGrammar.{SpellsArms}
use Rattle.decl_parser.specs.ArmReading.{arms_at}
use Rattle.decl_parser.specs.FunctionGrammar.{Parameter, SpellsParameter, parameter, SpellsReturned, nothing, returned, Scrutinee, SpellsScrutinee, plain, dereferenced, BodyTree, SpellsFunction, spelled}
use Rattle.decl_parser.specs.FunctionReading.{parameter_at, returned_at, scrutinee_at, same_text, head_at, function_at}
use Rattle.decl_parser.proofs.RunLaws.{run_sound, run_complete, run_shrinks}
use Rattle.decl_parser.proofs.ArmLaws.{all_arms, arms_count, arms_weigh}

-- ---- the parameter

types : Joined (SpellsType 64) (type_at 64)
types = (known_types 64).joined

parameter_by : (opening word colon closing : Placed) (all ts ws us vs xs rest : List Placed) (mutable comma raw : Bool) (name : List ℕ) (type : TypeTree) → all ≡ opening ∷ ts → ws ≡ word ∷ colon ∷ us
    → xs ≡ closing ∷ rest → IsMark marks.OpenRound opening → Maybe (is_word words.Mut) ts mutable ws → word.lexeme ≡ Named name raw → IsMark marks.Colon colon → SpellsType 64 us type vs
    → Maybe (is_mark marks.Comma) vs comma xs → IsMark marks.CloseRound closing → SpellsParameter all (record { name = name; type = type }) rest
parameter_by opening word colon closing all ts ws us vs xs rest mutable comma raw name type a b c o m w k t n d =
    rw a (parameter opening word colon closing ts us vs rest mutable comma raw name type o (rw b at m) w k t (rw c at n) d)

parameter_sound : (ts : List Placed) (y : Parameter × List Placed) → parameter_at ts ≡ Some y → SpellsParameter ts y.0 y.1
unfolding parameter_at
parameter_sound ts y e =
    let o = bind_some (behind (is_mark marks.OpenRound) ts) _ y e in
    let opening = behind_some marks.OpenRound ts o.0 o.1 in
    let m = flag_at (is_word words.Mut) o.0 in
    let n = bind_some (token_at name_of m.1) _ y o.2 in
    let word = name_some m.1 n.0 n.1 in
    let c = bind_some (behind (is_mark marks.Colon) n.0.1) _ y n.2 in
    let colon = behind_some marks.Colon n.0.1 c.0 c.1 in
    let t = bind_some (type_at 64 c.0) _ y c.2 in
    let k = flag_at (is_mark marks.Comma) t.0.1 in
    let d = bind_some (behind (is_mark marks.CloseRound) k.1) _ y t.2 in
    let closing = behind_some marks.CloseRound k.1 d.0 d.1 in
    given SpellsParameter ts _ y d.2
    (parameter_by opening.first word.first colon.first closing.first ts o.0 m.1 c.0 t.0.1 k.1 d.0 m.0 k.0 word.raw n.0.0 t.0.0 opening.whole
    (word.whole ∙ ap (λ us. word.first ∷ us) colon.whole) closing.whole opening.is (flag_sound (is_word words.Mut) o.0) word.is colon.is (types.sound c.0 t.0 t.1)
    (flag_sound (is_mark marks.Comma) t.0.1) closing.is)

parameter_complete : (ts rest : List Placed) (p : Parameter) → SpellsParameter ts p rest → parameter_at ts ≡ Some (p, rest)
unfolding parameter_at
parameter_complete _ _ _ (parameter opening word colon closing ts us vs rest mutable comma raw name type o m w k t n d) =
    rw (o, flag_complete (is_word words.Mut) ts (word ∷ colon ∷ us) mutable m, w, k, types.complete us vs type t, flag_complete (is_mark marks.Comma) vs (closing ∷ rest) comma n, d) refl

parameter_shrinks : (ts rest : List Placed) (p : Parameter) → SpellsParameter ts p rest → length rest < length ts
parameter_shrinks _ _ _ (parameter opening word colon closing ts us vs rest mutable comma raw name type o m w k t n d) =
    omega (arith, maybe_shrinks (is_word words.Mut) ts (word ∷ colon ∷ us) mutable m, types.shrinks us vs type t, maybe_shrinks (is_mark marks.Comma) vs (closing ∷ rest) comma n)

-- ---- what is returned

returned_sound : (ts rest : List Placed) → returned_at ts ≡ Some rest → SpellsReturned ts rest
unfolding returned_at
returned_sound ts rest e =
    elim (either_some (behind (is_mark marks.ThinArrow) ts) _ _ rest e) [
      | inl a ↦ (let b = behind_some marks.ThinArrow ts a.0 a.1 in rw b.whole (returned b.first a.0 rest b.is (run_sound until.Block a.0 rest a.2)))
      | inr o ↦ subst (λ us. SpellsReturned ts us) (some_is _ _ o.1) (nothing ts (next_is_not (is_mark marks.ThinArrow) ts o.0))
    ]

returned_complete : (ts rest : List Placed) → SpellsReturned ts rest → returned_at ts ≡ Some rest
unfolding returned_at
returned_complete _ _ (nothing ts n) = rw (none_behind (is_mark marks.ThinArrow) ts n) refl
returned_complete _ _ (returned arrow ts rest a r) = rw (a, run_complete until.Block ts rest r) refl

returned_shrinks : (ts rest : List Placed) → SpellsReturned ts rest → length rest ≤ length ts
returned_shrinks _ _ (nothing ts n) = omega arith
returned_shrinks _ _ (returned arrow ts rest a r) = omega (arith, run_shrinks until.Block ts rest r)

-- ---- the scrutinee

plain_by : (keyword word : Placed) (ts us rest : List Placed) (name : List ℕ) (raw : Bool) → ts ≡ keyword ∷ us → us ≡ word ∷ rest → IsWord words.Match keyword → word.lexeme ≡ Named name raw
    → SpellsScrutinee ts (record { deref = None; name = name }) rest
plain_by keyword word ts us rest name raw a b k w = rw (a, b) (plain keyword word rest name raw k w)

dereferenced_by : (keyword star word : Placed) (ts us vs rest : List Placed) (name : List ℕ) (raw : Bool) → ts ≡ keyword ∷ us → us ≡ star ∷ vs → vs ≡ word ∷ rest → IsWord words.Match keyword
    → IsMark marks.Star star → word.lexeme ≡ Named name raw → SpellsScrutinee ts (record { deref = Some (from_of us); name = name }) rest
dereferenced_by keyword star word ts us vs rest name raw a b c k s w = rw (a, b, c) (dereferenced keyword star word rest name raw k s w)

scrutinee_sound : (ts : List Placed) (y : Scrutinee × List Placed) → scrutinee_at ts ≡ Some y → SpellsScrutinee ts y.0 y.1
unfolding scrutinee_at
scrutinee_sound ts y e =
    let k = bind_some (behind (is_word words.Match) ts) _ y e in
    let keyword = behind_first (is_word words.Match) ts k.0 k.1 in
    let is = word_only words.Match keyword.first.lexeme keyword.is in
    elim (either_some (behind (is_mark marks.Star) k.0) _ _ y k.2) [
      | inl a ↦ (
          let star = behind_some marks.Star k.0 a.0 a.1 in
          let n = bind_some (token_at name_of a.0) _ y a.2 in
          let w = name_some a.0 n.0 n.1 in
          given SpellsScrutinee ts _ y n.2 (dereferenced_by keyword.first star.first w.first ts k.0 a.0 n.0.1 n.0.0 w.raw keyword.whole star.whole w.whole is star.is w.is))
      | inr o ↦ (
          let n = bind_some (token_at name_of k.0) _ y o.1 in
          let w = name_some k.0 n.0 n.1 in
          given SpellsScrutinee ts _ y n.2 (plain_by keyword.first w.first ts k.0 n.0.1 n.0.0 w.raw keyword.whole w.whole is w.is))
    ]

scrutinee_complete : (ts rest : List Placed) (s : Scrutinee) → SpellsScrutinee ts s rest → scrutinee_at ts ≡ Some (s, rest)
unfolding scrutinee_at
scrutinee_complete _ _ _ (plain keyword word rest name raw k w) = rw (k, w) refl
scrutinee_complete _ _ _ (dereferenced keyword star word rest name raw k s w) = rw (k, s, w) refl

scrutinee_shrinks : (ts rest : List Placed) (s : Scrutinee) → SpellsScrutinee ts s rest → length rest < length ts
scrutinee_shrinks _ _ _ (plain keyword word rest name raw k w) = omega arith
scrutinee_shrinks _ _ _ (dereferenced keyword star word rest name raw k s w) = omega arith

-- ---- the whole

-- "{", a scrutinee of this name, "{"
record IsHead (name : List ℕ) (ts : List Placed) (deref : Option ℕ) (rest : List Placed) : Type 0 where
  opening : Placed
  inner : Placed
  us : List Placed
  scrutinee : Scrutinee
  whole : ts ≡ opening ∷ us
  opens : IsMark marks.OpenCurly opening
  spells : SpellsScrutinee us scrutinee (inner ∷ rest)
  same : scrutinee.name ≡ name
  opens_inner : IsMark marks.OpenCurly inner
  place : scrutinee.deref ≡ deref

if_some : {A : Type 0} (b : Bool) (o : Option A) (y : A) → cond b o None ≡ Some y → (b ≡ true) × (o ≡ Some y)
if_some true o y e = (refl, e)
if_some false o y e = absurd cc

head_sound : (name : List ℕ) (ts : List Placed) (y : Option ℕ × List Placed) → head_at name ts ≡ Some y → IsHead name ts y.0 y.1
unfolding head_at
head_sound name ts y e =
    let o = bind_some (behind (is_mark marks.OpenCurly) ts) _ y e in
    let opening = behind_some marks.OpenCurly ts o.0 o.1 in
    let s = bind_some (scrutinee_at o.0) _ y o.2 in
    let c = if_some (same_text s.0.0.name name) _ y s.2 in
    let i = bind_some (behind (is_mark marks.OpenCurly) s.0.1) _ y c.1 in
    let inner = behind_some marks.OpenCurly s.0.1 i.0 i.1 in
    given (IsHead name) ts _ y i.2
    (record {
      opening = opening.first;
      inner = inner.first;
      us = o.0;
      scrutinee = s.0.0;
      whole = opening.whole;
      opens = opening.is;
      spells = rw inner.whole at (scrutinee_sound o.0 s.0 s.1);
      same = (bytes_decides s.0.0.name name).0 c.0;
      opens_inner = inner.is;
      place = refl;
    })

head_complete : (opening inner : Placed) (us rest : List Placed) (s : Scrutinee) (name : List ℕ) → IsMark marks.OpenCurly opening → SpellsScrutinee us s (inner ∷ rest) → s.name ≡ name
    → IsMark marks.OpenCurly inner → head_at name (opening ∷ us) ≡ Some (s.deref, rest)
unfolding head_at
head_complete opening inner us rest s name o p n i = rw (o, scrutinee_complete us (inner ∷ rest) s p, (bytes_decides s.name name).1 n, i) refl

function_by : (ts us vs ws rest : List Placed) (closing : Placed) (p : Parameter) (deref : Option ℕ) (arms : List ArmTree) → SpellsParameter ts p us → SpellsReturned us vs → IsHead p.name vs deref ws
    → SpellsArms ws arms (closing ∷ rest) → IsMark marks.CloseCurly closing → SpellsFunction ts (record { param = p.type; deref = deref; arms = arms }) rest
function_by ts us vs ws rest closing p deref arms a r h s c =
    subst (λ d. SpellsFunction ts (record { param = p.type; deref = d; arms = arms }) rest) h.place
    (spelled ts us h.us ws rest h.opening h.inner closing p h.scrutinee arms a (rw h.whole at r) h.opens h.spells h.same h.opens_inner s c)

function_sound : (ts : List Placed) (y : BodyTree × List Placed) → function_at ts ≡ Some y → SpellsFunction ts y.0 y.1
unfolding function_at
function_sound ts y e =
    let p = bind_some (parameter_at ts) _ y e in
    let r = bind_some (returned_at p.0.1) _ y p.2 in
    let h = bind_some (head_at p.0.0.name r.0) _ y r.2 in
    let a = bind_some (arms_at h.0.1) _ y h.2 in
    let c = bind_some (behind (is_mark marks.CloseCurly) a.0.1) _ y a.2 in
    let closing = behind_some marks.CloseCurly a.0.1 c.0 c.1 in
    given SpellsFunction ts _ y c.2
    (function_by ts p.0.1 r.0 h.0.1 c.0 closing.first p.0.0 h.0.0 a.0.0 (parameter_sound ts p.0 p.1) (returned_sound p.0.1 r.0 r.1) (head_sound p.0.0.name r.0 h.0 h.1)
    (rw closing.whole at (all_arms.sound h.0.1 a.0 a.1)) closing.is)

function_complete : (ts rest : List Placed) (b : BodyTree) → SpellsFunction ts b rest → function_at ts ≡ Some (b, rest)
unfolding function_at
function_complete _ _ _ (spelled ts us vs ws rest opening inner closing p s arms a r o h n i l c) =
    rw (parameter_complete ts us p a, returned_complete us (opening ∷ vs) r, head_complete opening inner vs ws s p.name o h n i, all_arms.complete ws (closing ∷ rest) arms l, c) refl

function_shrinks : (ts rest : List Placed) (b : BodyTree) → SpellsFunction ts b rest → length rest < length ts
function_shrinks _ _ _ (spelled ts us vs ws rest opening inner closing p s arms a r o h n i l c) =
    omega (arith, parameter_shrinks ts us p a, returned_shrinks us (opening ∷ vs) r, scrutinee_shrinks vs (inner ∷ ws) s h, all_arms.shrinks ws (closing ∷ rest) arms l)

pub functions : Joined SpellsFunction function_at
functions = record { sound = function_sound; complete = function_complete; shrinks = function_shrinks }

-- each arm takes a token at least
pub function_arms_count : (ts rest : List Placed) (b : BodyTree) → SpellsFunction ts b rest → length b.arms + length rest < length ts
function_arms_count _ _ _ (spelled ts us vs ws rest opening inner closing p s arms a r o h n i l c) =
    omega (arith, parameter_shrinks ts us p a, returned_shrinks us (opening ∷ vs) r, scrutinee_shrinks vs (inner ∷ ws) s h, arms_count ws (closing ∷ rest) arms l)

-- where each pattern has at most as many of something as tokens, so have the patterns of the arms
pub function_weighs : (weight : PatternTree → ℕ) → ((ts rest : List Placed) (p : PatternTree) → SpellsPattern ts p rest → weight p + length rest ≤ length ts)
    → (ts rest : List Placed) (b : BodyTree) → SpellsFunction ts b rest → sum_by (λ a. weight a.pattern) b.arms + length rest < length ts
function_weighs weight each _ _ _ (spelled ts us vs ws rest opening inner closing p s arms a r o h n i l c) =
    omega (arith, parameter_shrinks ts us p a, returned_shrinks us (opening ∷ vs) r, scrutinee_shrinks vs (inner ∷ ws) s h, arms_weigh weight each ws (closing ∷ rest) arms l)
