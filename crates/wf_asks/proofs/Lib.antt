mod InstanceRows
