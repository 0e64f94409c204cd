use Rattle.std.proofs.Common.{◌≡◌, take}
use Rattle.witnesses.specs.Views.{plain_strings}
use Rattle.witness_text.specs.Trees.{texts_view}
use Rattle.witness_names.proofs.naming.all_texts.Given as goal

abbrev pub invariant-loop-text : goal.invariant-loop-text
invariant-loop-text l = texts_view l.all.items ≡ plain_strings (take l.text-index l.texts)
