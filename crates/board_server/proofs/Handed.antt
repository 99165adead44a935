-- Where memory didn't run out, no answer is at hand that wasn't handed on.
use Rattle.std.proofs.Common.{◌≡◌, ℕ, Bool, false, None, List, [], ◌∷◌, ◌++◌, Result, Ok, Err, refl, subst}
use Rattle.futures.specs.declared.task.Poll.{Poll}
use Rattle.futures.specs.declared.task.Poll.TheVariants.{Ready}
use Rattle.http_types.specs.declared.error.DispatchError.{DispatchError}
use Rattle.http_types.specs.declared.error.DispatchError.TheVariants as error
use Rattle.h1_traced.specs.Traced.{TracedStands}
use Rattle.h1_dispatcher.specs.View.{View, Stage, free, waiting, calling, replying, sending, is_replying}
use Rattle.h1_dispatcher.specs.Acts.{Act, polled, ActsSay, HasMemory, AllHaveMemory}
use Rattle.h1_dispatcher.specs.Replies.{HasNoReply}
use Rattle.h1_dispatcher.proofs.Acts.{acts_run}
use Rattle.board_server.specs.declared.error.ServeError.{ServeError}
use Rattle.board_server.specs.declared.error.ServeError.TheVariants.{Dispatch, Budget, NoMemory}
use Rattle.board_server.specs.Serves.{EndsAt, Ends}
use Rattle.board_server.specs.Told.{HadMemory}
use Rattle.board_server.proofs.Acts.{says_more}
use Rattle.board_server.proofs.PolledRuns.{waits_have, same_error}
use Rattle.board_server.proofs.Requests.{last_of}

-- then none is the last one
pub none_last : (s : Stage) → is_replying s ≡ false → last_of s ≡ None
none_last free is = refl
none_last (waiting request) is = refl
none_last (calling took) is = refl
none_last (replying answer) is = absurd (cc is)
none_last (sending body) is = refl

acts_hand : (v w : View) (acts : List Act) → ActsSay v acts w → AllHaveMemory acts → TracedStands v.traced [] → HasNoReply v → HasNoReply w
acts_hand v w acts say have stands none = (acts_run v w acts say).handed have [] stands none

have_more : (acts : List Act) (act : Act) → AllHaveMemory acts → HasMemory act → AllHaveMemory (acts ++ act ∷ [])
have_more [] act all last = (last, tt)
have_more (a ∷ acts) act all last = (all.0, have_more acts act all.1 last)

at_hand : (polls : ℕ) (may_give : ℕ → Bool) (v w : View) (answer : Poll (Result Unit DispatchError)) → ¬ (answer ≡ Ready (Err error.NoMemory)) → EndsAt may_give polls v w answer → TracedStands v.traced [] → HasNoReply v
    → HasNoReply w
at_hand polls may_give v w answer enough ends stands none =
    let act : Act = polled ends.last.moment ends.last.cx answer in
    acts_hand v w (ends.waits.acts ++ act ∷ []) (says_more ends.waits.acts act v ends.between w ends.waits.say ends.last.says)
    (have_more ends.waits.acts act (waits_have may_give ends.waits.acts ends.waits.each) enough) stands none

pub ends_hand : (polls : ℕ) (may_give : ℕ → Bool) (v w : View) (end : Result Unit ServeError) → HadMemory end → Ends polls may_give v w end → TracedStands v.traced [] → HasNoReply v → HasNoReply w
ends_hand polls may_give v w (Ok x) enough ends stands none = at_hand polls may_give v w (Ready (Ok tt)) (λ is. absurd (cc is)) ends.0 stands none
ends_hand polls may_give v w (Err (Dispatch e)) enough ends stands none =
    at_hand polls may_give v w (Ready (Err e)) (λ is. subst (λ (x : DispatchError). HadMemory (Err (Dispatch x))) (same_error e (Ready (Err e)) refl is) enough) ends.0 stands none
ends_hand polls may_give v w (Err Budget) enough ends stands none = acts_hand v w ends.0.acts ends.0.say (waits_have may_give ends.0.acts ends.0.each) stands none
ends_hand polls may_give v w (Err NoMemory) enough ends stands none = absurd enough
