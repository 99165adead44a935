use Rattle.std.proofs.Common.{[], ◌∷◌, refl, arith}
use Rattle.std.specs.Prelude.{codes}
use Rattle.model_h1.specs.Handed.{item_end}
use Rattle.model_client.proofs.examples.a_body_in_pieces.Goals as goal

pub returns : goal.returns
returns c = record {
  reading = refl;
  items = record {
    pieces = codes "h" ∷ codes "i" ∷ [];
    last = item_end ∷ [];
    are = refl;
    some = (omega arith, (omega arith, tt));
    begins = ([], refl);
    behind = λ has. refl;
    follow = ([], refl);
  };
}
