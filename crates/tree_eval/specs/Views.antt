-- Values as the definitions have them.
use Rattle.std.specs.Prelude.{box_value, chars}
use Rattle.std.specs.String.{string_bytes}
use Rattle.match_model.specs.Values.{MValue, Flag, Num, Text, Node, Point, Row, Thing, Later, Unseen, values_of}
use Rattle.range_split.specs.Numbers.{num_value}
use Rattle.tree_eval.specs.declared.value.Value.{Value, Value-F, fold-Value}
use Rattle.tree_eval.specs.declared.value.Value.TheOpen as v

abbrev pub value_step : Value-F MValue → MValue
value_step (v.Flag b) = Flag b
value_step (v.Num n) = Num (num_value n)
value_step (v.Text t) = Text (chars (string_bytes t))
value_step (v.Node k parts) = Node k (values_of parts.items)
value_step (v.Point mutable p) = Point mutable (box_value p)
value_step (v.Row items) = Row (values_of items.items)
value_step v.Thing = Thing
value_step v.Later = Later
value_step v.Unseen = Unseen

-- the value, as the definitions have it
abbrev pub plain_value : Value → MValue
plain_value = fold-Value MValue value_step
