use Rattle.h1_encoder.specs.Meaning.{headers_of}
use Rattle.model_proxy.specs.HopNames.{without}
use Rattle.proxy_heads.specs.Words.{listed_words}
use Rattle.proxy_heads.proofs.LeftOut.{values_removed, no_values_left}
use Rattle.proxy_heads.proofs.hops.remove_listed.Goals as goal

pub loop-value-preserved-in-Some : goal.loop-value-preserved-in-Some
loop-value-preserved-in-Some c =
    values_removed c.in-Some.value c.loop-value.rest c.next.new.self c.as_bytes.result.now (headers_of c.loop-value.headers)
    (headers_of c.remove_words.new.headers) (without (listed_words c.args.values) (headers_of c.args.headers.now))
    c.in-Some.ensures.steps c.as_bytes.ensures.value c.remove_words.ensures c.loop-value.invariant

pub loop-value-preserved : goal.loop-value-preserved
loop-value-preserved c =
    values_removed c.in-Some.value c.loop-value.rest c.next.new.self c.as_bytes.result.now (headers_of c.loop-value.headers)
    (headers_of c.remove_words.new.headers) (without (listed_words c.args.values) (headers_of c.args.headers.now))
    c.in-Some.ensures.steps c.as_bytes.ensures.value c.remove_words.ensures c.loop-value.invariant

pub returns : goal.returns
returns c =
    no_values_left c.loop-value.rest (headers_of c.loop-value.headers) (without (listed_words c.args.values) (headers_of c.args.headers.now))
    c.in_default.ensures.steps.0 c.loop-value.invariant
