-- The fault of a writer whose sink answers this one.
use Rattle.celf_source.specs.declared.sink.SinkFault.{SinkFault}
use Rattle.celf_source.specs.declared.sink.SinkFault.TheVariants as sink
use Rattle.celf_source.specs.declared.write.WriteAllFault.{WriteAllFault}
use Rattle.celf_source.specs.declared.write.WriteAllFault.TheVariants.{WriteFault, NoMemory}

abbrev pub write_fault_of : SinkFault → WriteAllFault
write_fault_of sink.Failed = WriteFault
write_fault_of sink.NoMemory = NoMemory
