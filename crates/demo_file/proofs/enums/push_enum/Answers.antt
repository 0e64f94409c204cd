use Rattle.demo_file.proofs.Pieces.{enum_added}
use Rattle.demo_file.proofs.enums.push_enum.Goals as goal

pub returns : goal.returns
unfolding lib.Utf8.encode
returns c =
    enum_added _ _ _ _ _ _ c.unit_count.ensures c.in_ok-write.ensures.bytes c.in_ok-push_variants.ensures
    c.in_ok-push_str.ensures.bytes
