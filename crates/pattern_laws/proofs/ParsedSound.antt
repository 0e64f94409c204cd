-- The arms of parsed functions are sound.
use Rattle.std.proofs.Common.{◌≡◌, ℕ, zero, suc, List, [], ◌∷◌, length, Some, slice_get, refl, sym, subst}
use Rattle.std.specs.List.{Contains}
use Rattle.std.proofs.lemmas.Option.{slice_get_read}
use Rattle.match_model.specs.Lists.{Every}
use Rattle.decl_lexer.specs.Lexing.{Placed, HasTokens}
use Rattle.decl_lexer.proofs.Sources.{tokens_in_order}
use Rattle.decl_syntax.specs.Units.{units}
use Rattle.decl_syntax.specs.Items.{ItemTree}
use Rattle.decl_syntax.specs.Functions.{FunctionTree}
use Rattle.decl_parser.specs.FileGrammar.{IsFile}
use Rattle.pattern_rules.specs.Faults.{function_of}
use Rattle.pattern_laws.specs.ParsedLaws.{IsParsedFunction, ParsedFunctionsAreSpelled, ParsedArmsAreSound}
use Rattle.pattern_laws.proofs.TokenStanding.{Stand, units_stand}
use Rattle.pattern_laws.proofs.SpelledItems.{IsFineArm, IsFineFunction, IsFineKind, file_reads}
use Rattle.pattern_laws.proofs.SpelledLiterals.{tokens_spelled}
use Rattle.pattern_laws.proofs.TableSeen.{sound_file}

-- what holds of each holds of one of them
every_there : {A : Type 0} (P : A → Type 0) (xs : List A) → Every P xs → (k : ℕ) (x : A) → slice_get xs k ≡ Some x → P x
every_there P [] h k x e = cc
every_there P (y ∷ xs) h zero x e = let same : y ≡ x = cc in subst P same h.0
every_there P (y ∷ xs) h (suc k) x e = every_there P xs h.1 k x e

pub every_of : {A : Type 0} (P : A → Type 0) (xs : List A) → Every P xs → (x : A) → Contains xs x → P x
every_of P xs h x c = every_there P xs h c.0 x (slice_get_read xs (length xs) c.0 x refl c.1 (sym c.2))

fine_function : (bytes : List ℕ) (tokens : List Placed) (items : List ItemTree) (item : ItemTree) (f : FunctionTree) →
    HasTokens bytes tokens → IsFile (units tokens) items → Contains items item → function_of item.kind ≡ Some f →
    IsFineFunction (length bytes) f
fine_function bytes tokens items item f h is c e =
    let stand : Stand 0 (length bytes) (units tokens) =
    units_stand 0 (length bytes) tokens (tokens_in_order bytes tokens h) (tokens_spelled bytes tokens h) in
    every_of (λ i. IsFineKind (length bytes) i.kind) items (file_reads (units tokens) items (length bytes) is stand)
    item c f e

pub parsed_functions : ParsedFunctionsAreSpelled
parsed_functions bytes tokens items item f h is c e =
    let fine = fine_function bytes tokens items item f h is c e in
    record {
      spelled = λ a d. (every_of IsFineArm f.arms fine.0 a d).0;
      ascend = λ a d. (every_of IsFineArm f.arms fine.0 a d).1;
      few = fine.1;
    }

pub parsed_arms : ParsedArmsAreSound
parsed_arms bytes tokens s table item f a h is table_is c e fine d =
    let sound = sound_file s table table_is in
    let parsed : IsParsedFunction bytes f = parsed_functions bytes tokens s.items item f h is c e in
    record {
      sound = sound.sound;
      type_is = sound.scrutinee item f c e fine;
      fine = fine;
      among = d;
      spelled = parsed.spelled a d;
      ascend = parsed.ascend a d;
    }
