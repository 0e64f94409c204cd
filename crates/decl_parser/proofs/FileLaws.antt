-- Files and faults: what is read is spelled so, and there is one answer.
use Rattle.std.proofs.Common.{◌≡◌, ℕ, zero, suc, ◌<◌, ◌⊎◌, inl, inr, Bool, true, false, List, [], ◌∷◌, ◌++◌, length, Option, Some, None, refl, sym, ap, subst, ◌∙◌, arith}
use Rattle.decl_lexer.specs.declared.marks.Mark.TheVariants as marks
use Rattle.decl_lexer.specs.Lexing.{Placed}
use Rattle.decl_syntax.specs.Units.{behind, is_mark, from_of}
use Rattle.decl_syntax.specs.Grammar.{IsMark}
use Rattle.decl_syntax.specs.Reading.{Read}
use Rattle.decl_syntax.proofs.Joined.{some_is, bind_some, behind_some, one_reading}
use Rattle.decl_parser.specs.declared.runs.Until.TheVariants as until
use Rattle.decl_parser.specs.declared.file.ParseFault.{ParseFault}
use Rattle.decl_parser.specs.declared.file.ParseFault.TheVariants as faults
use Rattle.decl_parser.specs.RunGrammar.{SpellsRun}
use Rattle.decl_parser.specs.RunReading.{run_at}
use Rattle.decl_syntax.specs.Items.{ItemTree}
use Rattle.decl_parser.specs.ItemGrammar.{SpellsItem, SpellsItems, nothing}
use Rattle.decl_parser.specs.ItemGrammar as grammar
use Rattle.decl_parser.specs.ItemReading.{item_at}
use Rattle.decl_parser.specs.ItemWidths.{item_is_wide}
use Rattle.decl_parser.specs.FileGrammar.{SpellsFileAttribute, file_attribute, SkipsAttributes, no_more, one_more, AreNarrow, IsFile, StandsBehind, IsSyntaxFault, IsWideFault, IsFaultOf, OneFile, FileOrFault, OneFault, SomeAnswer}
use Rattle.decl_parser.specs.FileReading.{file_attribute_at, ReadsFault}
use Rattle.decl_parser.proofs.RunLaws.{run_complete, run_sound, run_shrinks}
use Rattle.decl_parser.proofs.ItemLaws.{items}

-- ---- attributes of the file

attribute_by : (hash bang opening closing : Placed) (ts us vs ws xs rest : List Placed) → ts ≡ hash ∷ us → IsMark marks.Hash hash → us ≡ bang ∷ vs → IsMark marks.Bang bang → vs ≡ opening ∷ ws
    → IsMark marks.OpenSquare opening → SpellsRun until.Bracket ws xs → xs ≡ closing ∷ rest → IsMark marks.CloseSquare closing → SpellsFileAttribute ts rest
attribute_by hash bang opening closing ts us vs ws xs rest wh h wb b wo o r wc c = rw (wh, wb, wo) (file_attribute hash bang opening closing ws rest h b o (rw wc at r) c)

pub attribute_sound : (ts rest : List Placed) → file_attribute_at ts ≡ Some rest → SpellsFileAttribute ts rest
unfolding file_attribute_at
attribute_sound ts rest e =
    let h = bind_some (behind (is_mark marks.Hash) ts) _ rest e in
    let b = bind_some (behind (is_mark marks.Bang) h.0) _ rest h.2 in
    let o = bind_some (behind (is_mark marks.OpenSquare) b.0) _ rest b.2 in
    let r = bind_some (run_at until.Bracket o.0) _ rest o.2 in
    let hash = behind_some marks.Hash ts h.0 h.1 in
    let bang = behind_some marks.Bang h.0 b.0 b.1 in
    let opening = behind_some marks.OpenSquare b.0 o.0 o.1 in
    let closing = behind_some marks.CloseSquare r.0 rest r.2 in
    attribute_by hash.first bang.first opening.first closing.first ts h.0 b.0 o.0 r.0 rest hash.whole hash.is bang.whole bang.is opening.whole opening.is (run_sound until.Bracket o.0 r.0 r.1) closing.whole closing.is

attribute_complete : (ts rest : List Placed) → SpellsFileAttribute ts rest → file_attribute_at ts ≡ Some rest
unfolding file_attribute_at
attribute_complete _ _ (file_attribute hash bang opening closing ts rest h b o r c) = rw (h, b, o, run_complete until.Bracket ts (closing ∷ rest) r, c) refl

pub attribute_none : (ts : List Placed) → file_attribute_at ts ≡ None → (rest : List Placed) → SpellsFileAttribute ts rest → ⊥
attribute_none ts e rest s = let k = attribute_complete ts rest s in cc

pub attribute_shrinks : (ts rest : List Placed) → SpellsFileAttribute ts rest → length rest < length ts
attribute_shrinks _ _ (file_attribute hash bang opening closing ts rest h b o r c) = omega (arith, run_shrinks until.Bracket ts (closing ∷ rest) r)

pub attribute_smaller : (ts rest : List Placed) → file_attribute_at ts ≡ Some rest → length rest < length ts
attribute_smaller ts rest e = attribute_shrinks ts rest (attribute_sound ts rest e)

one_attribute : (ts us vs : List Placed) → SpellsFileAttribute ts us → SpellsFileAttribute ts vs → us ≡ vs
one_attribute ts us vs p q = some_is us vs (sym (attribute_complete ts us p) ∙ attribute_complete ts vs q)

one_start : (ts us vs : List Placed) → SkipsAttributes ts us → SkipsAttributes ts vs → us ≡ vs
one_start _ _ _ (no_more ts n) (no_more _ m) = refl
one_start _ _ _ (no_more ts n) (one_more _ us rest a s) = absurd (n us a)
one_start _ _ _ (one_more ts us rest a s) (no_more _ m) = absurd (m us a)
one_start _ _ _ (one_more ts us rest a s) (one_more _ ws other b t) =
    one_start us rest other s (subst (λ z. SkipsAttributes z other) (sym (one_attribute ts us ws a b)) t)

-- ---- items

one_item : (ts us vs : List Placed) (x y : ItemTree) → SpellsItem ts x us → SpellsItem ts y vs → (x ≡ y) × (us ≡ vs)
one_item = one_reading SpellsItem item_at items

no_item : (x : ItemTree) (rest : List Placed) → SpellsItem [] x rest → ⊥
no_item x rest s = let l = items.shrinks [] rest x s in absurd (omega arith)

pub items_push : (ts us vs : List Placed) (xs : List ItemTree) (x : ItemTree) → SpellsItems ts xs us → SpellsItem us x vs → SpellsItems ts (xs ++ x ∷ []) vs
items_push _ _ vs _ x (nothing ts) s = grammar.one_more ts vs vs x [] s (nothing vs)
items_push _ _ vs _ x (grammar.one_more ts us rest y ys a more) s = grammar.one_more ts us vs y (ys ++ x ∷ []) a (items_push us rest vs ys x more s)

pub narrow_push : (xs : List ItemTree) (x : ItemTree) → AreNarrow xs → item_is_wide x ≡ false → AreNarrow (xs ++ x ∷ [])
narrow_push [] x n e = (e, tt)
narrow_push (y ∷ ys) x n e = (n.0, narrow_push ys x n.1 e)

pub item_spelled : (ts rest : List Placed) (x : ItemTree) → item_at ts ≡ Some (x, rest) → SpellsItem ts x rest
item_spelled ts rest x e = items.sound ts (x, rest) e

pub item_smaller : (ts rest : List Placed) (x : ItemTree) → item_at ts ≡ Some (x, rest) → length rest < length ts
item_smaller ts rest x e = items.shrinks ts rest x (item_spelled ts rest x e)

-- ---- faults

module _ (ts start us rest : List Placed) (xs : List ItemTree) (first : Placed) (head : SkipsAttributes ts start) (spelled : SpellsItems start xs us) (narrow : AreNarrow xs) (whole : us ≡ first ∷ rest) where
  stands : (number at : ℕ) → length xs ≡ number → at ≡ from_of us → StandsBehind ts number at
  stands number at n e = record {
    start = start;
    items = xs;
    first = first;
    rest = rest;
    head = head;
    spelled = rw whole at spelled;
    narrow = narrow;
    counted = n;
    placed = sym (e ∙ ap from_of whole);
  }

  pub fault_stands : (fault : ParseFault) (number : ℕ) → length xs ≡ number → ReadsFault fault number us → IsFaultOf ts fault
  unfolding stands
  fault_stands (faults.Syntax item at) number n f = record {
    place = stands item at (n ∙ sym f.0) f.1;
    none = λ x after s. let k = items.complete (first ∷ rest) after x s in let l : item_at (first ∷ rest) ≡ None = rw whole at f.2 in cc;
  }
  fault_stands (faults.Wide item at) number n f = record {
    place = stands item at (n ∙ sym f.0) f.1;
    item = f.2.item;
    after = f.2.rest;
    spelled = subst (λ z. SpellsItem z f.2.item f.2.rest) whole (item_spelled us f.2.rest f.2.item f.2.read);
    wide = f.2.wide;
  }
  fault_stands faults.NoMemory number n f = tt

-- ---- one answer

-- no item that is narrow enough begins here
abbrev Ends : List Placed → Type 0
Ends us = (x : ItemTree) (rest : List Placed) → SpellsItem us x rest → item_is_wide x ≡ true

same_walk : (ts us vs : List Placed) (xs ys : List ItemTree) → SpellsItems ts xs us → SpellsItems ts ys vs → AreNarrow xs → AreNarrow ys → Ends us → Ends vs → (xs ≡ ys) × (us ≡ vs)
same_walk _ _ _ _ _ (nothing ts) (nothing _) n m e f = (refl, refl)
same_walk _ _ _ _ _ (nothing ts) (grammar.one_more _ us rest y ys b t) n m e f = let wide = e y us b in let narrow = m.0 in absurd cc
same_walk _ _ _ _ _ (grammar.one_more ts us rest x xs a s) (nothing _) n m e f = let wide = f x us a in let narrow = n.0 in absurd cc
same_walk _ _ _ _ _ (grammar.one_more ts us rest x xs a s) (grammar.one_more _ ws other y ys b t) n m e f =
    let o = one_item ts us ws x y a b in
    let r = same_walk us rest other xs ys s (subst (λ z. SpellsItems z ys other) (sym o.1) t) n.1 m.1 e f in
    (ap (λ z. z ∷ xs) o.0 ∙ ap (λ zs. y ∷ zs) r.0, r.1)

walk : (ts start other us vs : List Placed) (xs ys : List ItemTree) → SkipsAttributes ts start → SkipsAttributes ts other → SpellsItems start xs us → SpellsItems other ys vs → AreNarrow xs → AreNarrow ys
    → Ends us → Ends vs → (xs ≡ ys) × (us ≡ vs)
walk ts start other us vs xs ys h k s t n m e f =
    same_walk start us vs xs ys s (subst (λ z. SpellsItems z ys vs) (sym (one_start ts start other h k)) t) n m e f

file_ends : Ends []
file_ends x rest s = absurd (no_item x rest s)

syntax_ends : (ts : List Placed) (number at : ℕ) (f : IsSyntaxFault ts number at) → Ends (f.place.first ∷ f.place.rest)
syntax_ends ts number at f x rest s = absurd (f.none x rest s)

wide_ends : (ts : List Placed) (number at : ℕ) (f : IsWideFault ts number at) → Ends (f.place.first ∷ f.place.rest)
wide_ends ts number at f x rest s = ap item_is_wide (one_item (f.place.first ∷ f.place.rest) rest f.after x f.item s f.spelled).0 ∙ f.wide

pub one_file_of : OneFile
one_file_of ts xs ys f g = (walk ts f.start g.start [] [] xs ys f.head g.head f.spelled g.spelled f.narrow g.narrow file_ends file_ends).0

no_place : (ts : List Placed) (xs : List ItemTree) → IsFile ts xs → (number at : ℕ) (p : StandsBehind ts number at) → Ends (p.first ∷ p.rest) → ⊥
no_place ts xs f number at p e =
    let w = (walk ts f.start p.start [] (p.first ∷ p.rest) xs p.items f.head p.head f.spelled p.spelled f.narrow p.narrow file_ends e).1 in absurd cc

pub file_or_fault_of : FileOrFault
file_or_fault_of ts xs f number at = (
  λ s. no_place ts xs f number at s.place (syntax_ends ts number at s),
  λ w. no_place ts xs f number at w.place (wide_ends ts number at w),
)

same_place : (ts : List Placed) (number at other place : ℕ) (p : StandsBehind ts number at) (q : StandsBehind ts other place) → Ends (p.first ∷ p.rest) → Ends (q.first ∷ q.rest)
    → (number ≡ other) × (at ≡ place) × (p.first ∷ p.rest ≡ q.first ∷ q.rest)
same_place ts number at other place p q e f =
    let w = walk ts p.start q.start (p.first ∷ p.rest) (q.first ∷ q.rest) p.items q.items p.head q.head p.spelled q.spelled p.narrow q.narrow e f in
    (sym p.counted ∙ ap length w.0 ∙ q.counted, sym p.placed ∙ ap from_of w.1 ∙ q.placed, w.1)

pub one_fault_of : OneFault
one_fault_of ts number at other place = (
  λ s t. let p = same_place ts number at other place s.place t.place (syntax_ends ts number at s) (syntax_ends ts other place t) in (p.0, p.1),
  λ w v. let p = same_place ts number at other place w.place v.place (wide_ends ts number at w) (wide_ends ts other place v) in (p.0, p.1),
  λ s w.
      let p = same_place ts number at other place s.place w.place (syntax_ends ts number at s) (wide_ends ts other place w) in
      s.none w.item w.after (subst (λ z. SpellsItem z w.item w.after) (sym p.2) w.spelled),
)

-- ---- some answer

-- what stands behind all attributes of the file
abbrev Start : List Placed → Type 0
Start ts = (start : List Placed) × SkipsAttributes ts start

starts : (n : ℕ) (ts : List Placed) → length ts < n → Start ts
starts zero ts l = absurd (omega arith)
starts (suc n) ts l = by_case (file_attribute_at ts) refl (λ us k. starts n us (omega arith))
  where
    by_case : (o : Option (List Placed)) → file_attribute_at ts ≡ o → ((us : List Placed) → length us < length ts → Start us) → Start ts
    by_case None e below = (ts, no_more ts (attribute_none ts e))
    by_case (Some us) e below =
        let s = attribute_sound ts us e in
        let r = below us (attribute_shrinks ts us s) in
        (r.0, one_more ts us r.0 s r.1)

abbrev Answer : List Placed → Type 0
Answer ts = ((xs : List ItemTree) × IsFile ts xs) ⊎ ((number : ℕ) × (at : ℕ) × (IsSyntaxFault ts number at ⊎ IsWideFault ts number at))

module _ (ts start : List Placed) (head : SkipsAttributes ts start) where
  abbrev Below : List Placed → Type 0
  Below us = (vs : List Placed) (ys : List ItemTree) → length vs < length us → SpellsItems start ys vs → AreNarrow ys → Answer ts

  abbrev place : (first : Placed) (rest : List Placed) (xs : List ItemTree) → SpellsItems start xs (first ∷ rest) → AreNarrow xs → StandsBehind ts (length xs) first.from
  place first rest xs s w = record { start = start; items = xs; first = first; rest = rest; head = head; spelled = s; narrow = w; counted = refl; placed = refl }

  by_width : (first : Placed) (rest vs : List Placed) (xs : List ItemTree) (x : ItemTree) (s : SpellsItems start xs (first ∷ rest)) → AreNarrow xs → SpellsItem (first ∷ rest) x vs → Below (first ∷ rest)
      → (b : Bool) → item_is_wide x ≡ b → Answer ts
  by_width first rest vs xs x s w i below true e = inr (length xs, first.from, inr (record { place = place first rest xs s w; item = x; after = vs; spelled = i; wide = e }))
  by_width first rest vs xs x s w i below false e = below vs (xs ++ x ∷ []) (items.shrinks (first ∷ rest) vs x i) (items_push start (first ∷ rest) vs xs x s i) (narrow_push xs x w e)

  by_item : (first : Placed) (rest : List Placed) (xs : List ItemTree) → SpellsItems start xs (first ∷ rest) → AreNarrow xs → Below (first ∷ rest) → (o : Read ItemTree) → item_at (first ∷ rest) ≡ o → Answer ts
  by_item first rest xs s w below None e =
      inr (length xs, first.from, inl (record { place = place first rest xs s w; none = λ x vs i. let k = items.complete (first ∷ rest) vs x i in cc }))
  by_item first rest xs s w below (Some y) e = by_width first rest y.1 xs y.0 s w (items.sound (first ∷ rest) y e) below (item_is_wide y.0) refl

  answers : (n : ℕ) (us : List Placed) (xs : List ItemTree) → length us < n → SpellsItems start xs us → AreNarrow xs → Answer ts
  answers zero us xs l s w = absurd (omega arith)
  answers (suc n) [] xs l s w = inl (xs, record { start = start; head = head; spelled = s; narrow = w })
  answers (suc n) (first ∷ rest) xs l s w = by_item first rest xs s w (λ vs ys k t v. answers n vs ys (omega arith) t v) (item_at (first ∷ rest)) refl

pub some_answer_of : SomeAnswer
some_answer_of ts =
    let h = starts (suc (length ts)) ts (omega arith) in
    answers ts h.0 h.1 (suc (length h.0)) h.0 [] (omega arith) (nothing h.0) tt
