use Rattle.kernel_calls.proofs.CoreMemory.{cores_are_walked}
use Rattle.kernel_calls.proofs.LeftByProcessors.{walks_leave_cores, walks_take_no_frame, walks_keep_containers, stores_leave_cores, marks_leave_cores}
use Rattle.kernel_calls.proofs.laws.processors_leave_cores.Goals as goal

pub returns-clause-cores : goal.returns-clause-cores
returns-clause-cores c = cores_are_walked

pub returns-clause-walks : goal.returns-clause-walks
returns-clause-walks c = walks_leave_cores

pub returns-clause-plan : goal.returns-clause-plan
returns-clause-plan c = walks_take_no_frame

pub returns-clause-containers : goal.returns-clause-containers
returns-clause-containers c = walks_keep_containers

pub returns-clause-stores : goal.returns-clause-stores
returns-clause-stores c = stores_leave_cores

pub returns-clause-marks : goal.returns-clause-marks
returns-clause-marks c = marks_leave_cores
