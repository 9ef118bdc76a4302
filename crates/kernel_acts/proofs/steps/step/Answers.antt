use Rattle.kernel_acts.proofs.steps.step.Goals as goal

pub returns-clause-carried : goal.returns-clause-carried
returns-clause-carried c =
    let now = c.stands.ensures in
    let told = c.step-reply.ensures in
    record {
      state = told.state;
      ends = told.ends;
      core = now.core;
      writes = told.writes;
    }
