-- What holds of tokens holds of those behind what they begin with: lists, runs and attributes.
use Rattle.std.proofs.Common.{Bool, List, [], ◌∷◌, ◌++◌}
use Rattle.decl_lexer.specs.declared.marks.Mark.{Mark}
use Rattle.decl_lexer.specs.declared.marks.Mark.TheVariants as marks
use Rattle.decl_lexer.specs.Begins.{Lexeme}
use Rattle.decl_lexer.specs.Lexing.{Placed}
use Rattle.decl_syntax.specs.Grammar.{Spelling, CommaList, closed, last, next, Separated, only, further, Maybe}
use Rattle.decl_syntax.specs.Grammar.{missing, there, Many, no_more, one_more}
use Rattle.decl_syntax.specs.Runs.{SpellsAttribute, attribute, SpellsAttributes}
use Rattle.decl_parser.specs.declared.runs.Until.{Until}
use Rattle.decl_parser.specs.RunGrammar.{SpellsRun, spelled}
use Rattle.match_model.specs.Lists.{Every}
use Rattle.file_names.specs.Items.{IsTokenNamed}

-- the name tokens among these have names
abbrev pub AreNamed : List Placed → Type 0
AreNamed ts = Every IsTokenNamed ts

-- so have those behind what these begin with
abbrev pub Kept : {A : Type 0} → Spelling A → Type 0
Kept {A} P = (ts rest : List Placed) (x : A) → P ts x rest → AreNamed ts → AreNamed rest

-- and what they begin with has this property
abbrev pub Gives : {A : Type 0} → (A → Type 0) → Spelling A → Type 0
Gives {A} Q P = (ts rest : List Placed) (x : A) → P ts x rest → AreNamed ts → Q x × AreNamed rest

pub behind_run : (run rest : List Placed) → AreNamed (run ++ rest) → AreNamed rest
behind_run [] rest g = g
behind_run (t ∷ run) rest g = behind_run run rest g.1

-- ---- lists

pub list_gives : {A : Type 0} (close : Mark) (Item : Spelling A) (Q : A → Type 0) → Gives Q Item
    → Gives (Every Q) (CommaList close Item)
list_gives close Item Q k _ _ _ (closed t rest e) g = (tt, g.1)
list_gives close Item Q k _ _ _ (last ts rest x t i e) g = let a = k ts (t ∷ rest) x i g in ((a.0, tt), a.1.1)
list_gives close Item Q k _ _ _ (next ts us rest x xs t i e more) g =
    let a = k ts (t ∷ us) x i g in
    let b = list_gives close Item Q k us rest xs more a.1.1 in
    ((a.0, b.0), b.1)

pub list_kept : {A : Type 0} (close : Mark) (Item : Spelling A) → Kept Item → Kept (CommaList close Item)
list_kept close Item k _ _ _ (closed t rest e) g = g.1
list_kept close Item k _ _ _ (last ts rest x t i e) g = (k ts (t ∷ rest) x i g).1
list_kept close Item k _ _ _ (next ts us rest x xs t i e more) g =
    list_kept close Item k us rest xs more (k ts (t ∷ us) x i g).1

pub separated_kept : {A : Type 0} (mark : Mark) (Item : Spelling A) → Kept Item → Kept (Separated mark Item)
separated_kept mark Item k _ _ _ (only ts rest x i n) g = k ts rest x i g
separated_kept mark Item k _ _ _ (further ts us rest x xs t i e more) g =
    separated_kept mark Item k us rest xs more (k ts (t ∷ us) x i g).1

pub maybe_kept : (passes : Lexeme → Bool) → Kept (Maybe passes)
maybe_kept passes _ _ _ (missing ts n) g = g
maybe_kept passes _ _ _ (there t ts e) g = g.1

many_kept : {A : Type 0} (mark : Mark) (Item : Spelling A) → Kept Item → Kept (Many mark Item)
many_kept mark Item k _ _ _ (no_more ts n) g = g
many_kept mark Item k _ _ _ (one_more t ts us rest x xs e i more) g =
    many_kept mark Item k us rest xs more (k (t ∷ ts) us x i g)

-- ---- attributes and runs

attribute_kept : Kept SpellsAttribute
attribute_kept _ _ _ (attribute hash opening closing first run rest h o p c) g =
    (behind_run run (closing ∷ rest) g.1.1.1).1

pub attributes_kept : Kept SpellsAttributes
attributes_kept = many_kept marks.Hash SpellsAttribute attribute_kept

pub run_kept : (stop : Until) (ts rest : List Placed) → SpellsRun stop ts rest → AreNamed ts → AreNamed rest
run_kept stop _ _ (spelled first run rest p n f) g = behind_run run rest g.1
