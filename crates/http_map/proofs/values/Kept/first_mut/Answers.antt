use Rattle.std.proofs.Common.{◌≡◌, refl, sym, length}
use Rattle.std.proofs.lemmas.Option.{slice_get_read}
use Rattle.http_map.proofs.values.Kept.first_mut.Goals as goal

pub returns-in-More : goal.returns-in-More
returns-in-More c =
    let v : c.as_mut.result.now ≡ c.in-More.values.value = rw c.in-More.is at c.as_mut.ensures.value in
    let e = rw v at c.index_mut.ensures.value in
    let some = rw c.in-More.is at c.requires in
    rw c.in-More.is (
      (refl, λ w. rw v refl),
      record {
        writes_back = tt;
        value = sym (slice_get_read c.in-More.values.value.items (length c.in-More.values.value.items) 0 c.index_mut.result.now refl some e);
      },
    )
