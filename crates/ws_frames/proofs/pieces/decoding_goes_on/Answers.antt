-- What is known of the front stays when bytes follow.
use Rattle.std.proofs.Common.{ℕ, List, Some, refl, sym, subst}
use Rattle.std.proofs.lemmas.List.{drop-append-le}
use Rattle.model_h1.specs.FrameText.{Front, StopsWith, is_under_way}
use Rattle.model_h1.proofs.FrameLemmas.{whole_stays, whole_fits, breaks_stays}
use Rattle.ws_frames.specs.FramePieces.{AreFrames}
use Rattle.ws_frames.proofs.pieces.decoding_goes_on.Goals as goal

pub returns-clause-given : goal.returns-clause-given
returns-clause-given c = λ reader u bytes more f len fs fail is others.
    let within = (whole_fits reader u bytes f len is).1 in (
      len,
      whole_stays reader u bytes more f len is,
      subst (λ (t : List ℕ). AreFrames reader (is_under_way u f) t fs fail) (sym (drop-append-le len bytes more within)) others,
    )

pub returns-clause-refused : goal.returns-clause-refused
returns-clause-refused c = λ reader u bytes more rule is.
    subst (λ (x : Front). StopsWith x (Some rule)) (sym (breaks_stays reader u bytes more rule is)) refl
