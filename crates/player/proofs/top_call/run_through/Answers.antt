use Rattle.std.proofs.Common.{inr}
use Rattle.player.specs.Runs.{IsRun}
use Rattle.player.proofs.RunUnderWay.{run_as}
use Rattle.player.proofs.Complete.{scripts_end}
use Rattle.player.proofs.Serving.{cuts_off}
use Rattle.player.proofs.top_call.run_through.Goals as goal

pub returns-in-Ok-write_all-clause-played : goal.returns-in-Ok-write_all-clause-played
returns-in-Ok-write_all-clause-played g c =
    let read = c.in-Ok.ensures in
    let run : IsRun c.in-Ok.input c.in-Ok-play_script.ending c.as_bytes.result.now = run_as _ _ c.in-Ok-play_script.ending _ _ c.as_slice.ensures c.as_bytes.ensures.value c.in-Ok-play_script.ensures in
    record {
      input = c.in-Ok.input;
      text = c.as_bytes.result.now;
      is_input = record { taken = read.taken; limit = read.bound; whole = read.whole };
      is_run = run;
      whole = scripts_end c.in-Ok.input c.in-Ok-play_script.ending c.as_bytes.result.now run;
      is_written = c.in-Ok-write_all.ensures.all;
    }

pub returns-in-Err-Failed-write_all-clause-sink : goal.returns-in-Err-Failed-write_all-clause-sink
returns-in-Err-Failed-write_all-clause-sink g c = λ e.
    cuts_off c.in-Ok.ensures.taken c.in-Ok.ensures.bound c.in-Ok.ensures.whole c.as_slice.ensures c.as_bytes.ensures.value c.in-Ok-play_script.ending c.in-Ok-play_script.ensures c.write_all.ensures.front

pub returns-in-Ok-play_script-clause-memory : goal.returns-in-Ok-play_script-clause-memory
returns-in-Ok-play_script-clause-memory g c = λ e.
    inr (cuts_off c.in-Ok.ensures.taken c.in-Ok.ensures.bound c.in-Ok.ensures.whole c.as_slice.ensures c.as_bytes.ensures.value c.in-Ok-play_script.ending c.in-Ok-play_script.ensures c.write_all.ensures.front)
