mod KeySteps
